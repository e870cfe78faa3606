use Rattle.std.proofs.Common.{All, take}
use Rattle.updates.specs.Places.{IsUpdate}
use Rattle.bench_queue.proofs.command.are_updates.Given as goal

abbrev pub invariant-loop-update : goal.invariant-loop-update
invariant-loop-update l = All (IsUpdate l.geometry) (take l.update-index l.updates)
