use Rattle.std.proofs.Common.{All, take}
use Rattle.updates.specs.Places.{IsCell}
use Rattle.updates.specs.Values.{cell}
use Rattle.bench_queue.proofs.command.are_cells.Given as goal

abbrev pub invariant-loop-named : goal.invariant-loop-named
invariant-loop-named l = All (λ c. IsCell l.geometry (cell c)) (take l.named-index l.cells)
