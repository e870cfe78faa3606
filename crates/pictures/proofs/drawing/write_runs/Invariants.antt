use Rattle.std.proofs.Common.{◌≤◌}
use Rattle.pictures.proofs.drawing.write_runs.Given as goal

abbrev pub invariant-loop-column : goal.invariant-loop-column
invariant-loop-column l = l.first ≤ l.column
