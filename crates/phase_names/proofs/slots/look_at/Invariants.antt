use Rattle.std.proofs.Common.{◌*◌}
use Rattle.frozen.specs.Kept.{frozen_view}
use Rattle.phase_names.specs.Walks.{IsWalked}
use Rattle.phase_names.proofs.slots.look_at.Given as goal

abbrev pub invariant-loop-position : goal.invariant-loop-position
invariant-loop-position l = IsWalked l.frozen.geometry (frozen_view l.frozen) l.directory (16 * l.position) l.walk
