use Rattle.std.proofs.Common.{◌≤◌, length}
use Rattle.directories.specs.Pieces.{AreCut}
use Rattle.directories.proofs.cutting.pieces.Given as goal

abbrev pub invariant-loop-number : goal.invariant-loop-number
invariant-loop-number l = record {
  cut : AreCut 0 l.cutting.pieces.items l.cutting.first;
  low : l.cutting.first ≤ l.number;
  few : length l.cutting.pieces.items ≤ l.number;
}
