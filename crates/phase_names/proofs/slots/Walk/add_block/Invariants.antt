use Rattle.std.proofs.Common.{◌*◌}
use Rattle.frozen.specs.Kept.{frozen_view}
use Rattle.phase_names.specs.Walks.{IsWalked}
use Rattle.phase_names.proofs.slots.Walk.add_block.Given as goal

abbrev pub invariant-loop-slot : goal.invariant-loop-slot
invariant-loop-slot l =
    IsWalked l.frozen.geometry (frozen_view l.frozen) l.directory (16 * l.position) l.fn.self → IsWalked l.frozen.geometry (frozen_view l.frozen) l.directory l.slot l.self
