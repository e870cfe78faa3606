use Rattle.std.proofs.Common.{◌≡◌, take}
use Rattle.softdep.specs.Queued.{cells_of}
use Rattle.softdep.proofs.issuing.cells_in.Given as goal

abbrev pub invariant-loop-update : goal.invariant-loop-update
invariant-loop-update l = l.cells ≡ cells_of (take l.update-index l.updates)
