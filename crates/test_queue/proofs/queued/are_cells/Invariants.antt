use Rattle.std.proofs.Common.{All, take}
use Rattle.updates.specs.Places.{IsCell}
use Rattle.updates.specs.Values.{cell}
use Rattle.test_queue.proofs.queued.are_cells.Given as goal

abbrev pub invariant-loop-candidate : goal.invariant-loop-candidate
invariant-loop-candidate l = All (λ c. IsCell l.geometry (cell c)) (take l.candidate-index l.cells)
