-- The tables are looked up one after the other, and a directory has no others.
use Rattle.std.proofs.Common.{◌≡◌, ◌+◌, ℕ, not, sym, ap, ap₂, ◌∙◌, subst, arith, IsTrue, inl, inr}
use Rattle.std.proofs.lemmas.Bool.{and_parts, cases_eq, leb-true}
use Rattle.frozen.specs.Kept.{frozen_view}
use Rattle.model.specs.Layout.{is_number}
use Rattle.model.specs.View.{Inode}
use Rattle.model.specs.Shape.{most_blocks, tables}
use Rattle.model.specs.Uses.{blocks_of, is_directory, is_sound, is_sound_at, IsClaim}
use Rattle.model.proofs.Shape.{tables_range}
use Rattle.model.proofs.Uses.{sound_few}
use Rattle.live_plans.proofs.FoundLemmas.{is_claimed}
use Rattle.test_plans.proofs.entering.has_pointers.Goals as goal

pub loop-position-preserved : goal.loop-position-preserved
loop-position-preserved c = λ m low is. elim (cases_eq m c.loop-position.position) [
  | inl e ↦
      let kept = c.args.frozen.now in
      subst (λ k. (x : ℕ) × IsClaim kept.geometry (frozen_view kept) c.args.directory k x) (sym e)
      (is_claimed kept.geometry (frozen_view kept) c.args.directory c.loop-position.position c.claim_at.result (c.is_none.ensures ∙ ap not c.if-is_none.false) c.claim_at.ensures)
  | inr differs ↦ c.loop-position.invariant m (omega (arith, low, differs)) is
]

pub returns : goal.returns
returns c = λ yes m is has.
    let kept = c.args.frozen.now in
    let d = c.args.directory in
    let inode = (frozen_view kept).inode d in
    let sound = (and_parts (is_sound_at kept.geometry (frozen_view kept) d) (is_directory inode) c.requires).0 in
    let few = sound_few kept.geometry inode (and_parts (is_number kept.geometry d) (is_sound kept.geometry inode) sound).1 in
    let below = (tables_range kept.geometry (blocks_of inode.size) m few (leb-true (most_blocks kept.geometry) m is)).0 has in
    let blocks : c.blocks-2.result ≡ blocks_of inode.size = c.blocks-2.ensures ∙ ap (λ (i : Inode). blocks_of i.size) c.record.ensures in
    let end = c.tables_end-position-end.ensures.end ∙ ap₂ (λ g n. most_blocks g + tables n) c.geometry-geometry.ensures.geometry blocks in
    c.loop-position.invariant m (omega (arith, below, end, c.loop-position-test.false)) is
