use Rattle.std.proofs.Common.{◌≡◌, ◌++◌, take}
use Rattle.file_device.specs.Calls.{calls_of, writes_from}
use Rattle.file_device.proofs.file.add_run.Given as goal

abbrev pub invariant-loop-at : goal.invariant-loop-at
invariant-loop-at l = l.answered.items ≡ l.fn.answered.items ++ calls_of l.is_write (writes_from l.run.span.first (take l.at l.block-items))
