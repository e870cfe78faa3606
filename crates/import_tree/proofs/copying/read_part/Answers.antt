-- What is read stands behind what was.
use Rattle.std.proofs.Common.{sym, subst, le_refl, rules}
use Rattle.std.proofs.lemmas.Slice.{take-put_mid_below}
use Rattle.std.specs.Io.KnownBytes.{Consumes}
use Rattle.std.proofs.KnownBytes.{Consumes-kept, Consumes-trans}
use Rattle.import_tree.proofs.PartLemmas.{filled_from}
use Rattle.import_tree.proofs.copying.read_part.Goals.{in-Ok, in-Err}
use Rattle.import_tree.proofs.copying.read_part.Goals as goal

pub loop-turn-preserved : goal.loop-turn-preserved
loop-turn-preserved g c =
    let inv = c.loop-turn.invariant in
    elim c.match-read.branch [
      | in-Ok w ↦ rw (w.count-is) (
        search rules,
        search rules,
        subst (Consumes _ _) (sym (filled_from c.loop-turn.count _ w.in-Ok.more c.loop-turn.room c.read.new.buf inv.1 w.in-Ok.ensures.bound.0)) (Consumes-trans _ _ _ _ _ inv.2 w.in-Ok.ensures.bytes.0),
      )
      | in-Err w ↦ rw (w.count-is) (
        search rules,
        search rules,
        subst (Consumes _ _) (sym (take-put_mid_below _ _ _ _ _ (le_refl _) inv.1)) (Consumes-kept _ _ _ _ inv.2 w.in-Err.ensures.bytes),
      )
    ]
