-- The part in the room is written behind those before, and is the last one where the room was not filled.
use Rattle.std.proofs.Common.{◌≡◌, ◌++◌, ℕ, List, length, take, sym, ap, ◌∙◌, subst}
use Rattle.std.specs.Io.KnownBytes.{Consumes}
use Rattle.import_tree.proofs.PutLemmas.{no_block, part_last}
use Rattle.import_tree.proofs.copying.copy_parts.Goals as goal

pub loop-part-init : goal.loop-part-init
loop-part-init g c =
    let old = c.args.volume.now in
    record {
      room = c.requires.room;
      within = c.requires.within;
      end = c.requires.end;
      whole = ap length c.none-given.ensures;
      all = λ left h. subst (λ (given : List ℕ). Consumes left (g.F.Read.remaining c.args.reader.now) (given ++ take c.args.first c.args.room.now.items)) (sym c.none-given.ensures) h;
      honest = λ h. h;
      written = λ h. no_block (g.D.Device.held old.device) (g.D.Device.image old.device) old c.args.handle c.none-given.result;
    }

pub returns-then-count-lt-PART_BYTES-clause-written : goal.returns-then-count-lt-PART_BYTES-clause-written
returns-then-count-lt-PART_BYTES-clause-written g c = λ honest.
    let inv = c.loop-part.invariant in
    let held = g.D.Device.held in
    let image = g.D.Device.image in
    let old = c.args.volume.now in
    let here = c.loop-part.volume in
    let new = c.write_blocks.new.volume in
    let given = c.loop-part.given in
    let is = c.and-given.ensures ∙ ap (λ (room : List ℕ). given ++ take c.loop-part.count room) (sym c.as_slice.ensures.value) in
    part_last (held here.device) (held new.device) (image here.device) (image new.device) here new c.args.handle c.loop-part.index given (take c.loop-part.count c.as_slice.result.now) c.and-given.result is inv.whole
    (held old.device) (image old.device) old (inv.written (c.write_blocks.ensures.honest honest)) (c.in_ok-index.ensures.written honest)
