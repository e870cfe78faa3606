use Rattle.std.proofs.Common.{◌*◌}
use Rattle.frozen.specs.Kept.{frozen_view}
use Rattle.metadata.specs.Free.{AreFreeNumbersBelow}
use Rattle.metadata.proofs.free_space.free_numbers.Given as goal

abbrev pub invariant-loop-group : goal.invariant-loop-group
invariant-loop-group l = AreFreeNumbersBelow l.fn.frozen.geometry (frozen_view l.fn.frozen) (l.group * l.fn.frozen.geometry.inodes) l.marks
