use Rattle.frozen.specs.Kept.{frozen_view}
use Rattle.model.specs.Growth.{Adds}
use Rattle.phase_maps.specs.Walks.{IsFoundAt, is_owned}
use Rattle.model.proofs.Adding.{AtBelow}
use Rattle.phase_maps.proofs.blocks.add_blocks.Given as goal

abbrev pub invariant-loop-bit : goal.invariant-loop-bit
invariant-loop-bit l = Adds (AtBelow (IsFoundAt l.frozen.geometry (frozen_view l.frozen) (is_owned l.owners) l.group) l.bit) l.fn.found.items l.found.items
