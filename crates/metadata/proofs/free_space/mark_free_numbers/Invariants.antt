use Rattle.std.proofs.Common.{◌+◌, ◌*◌}
use Rattle.frozen.specs.Kept.{frozen_view}
use Rattle.metadata.specs.Free.{AreFreeNumbersBelow}
use Rattle.metadata.proofs.free_space.mark_free_numbers.Given as goal

abbrev pub invariant-loop-bit : goal.invariant-loop-bit
invariant-loop-bit l = AreFreeNumbersBelow l.fn.frozen.geometry (frozen_view l.fn.frozen) (l.fn.group * l.fn.frozen.geometry.inodes + l.bit) l.marks
