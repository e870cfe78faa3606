use Rattle.std.proofs.Common.{Vec, Global, subst, sym}
use Rattle.frozen.specs.declared.frozen.Placed.{Placed}
use Rattle.updates.specs.Values.{change}
use Rattle.metadata.specs.Staged.{HasChange}
use Rattle.metadata.proofs.Steps.{staged_one_more, on_ok}
use Rattle.metadata.proofs.metadata.Metadata.stage_one.Goals as goal

pub returns : goal.returns
returns c = on_ok c.note.result c.note.ensures.bits (λ bits us is.
    staged_one_more c.args.self.now us (change c.args.change.now) c.args.staged.now c.note.new.self is c.requires.cell
    (subst (λ (v : Vec Placed Global). HasChange c.args.self.now (change c.args.change.now) c.args.staged.now.blocks.items v.items) (sym c.note.ensures.blocks) c.in_ok-place.ensures) bits)
