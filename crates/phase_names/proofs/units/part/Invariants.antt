use Rattle.std.proofs.Common.{◌≡◌, ◌≤◌, ◌⊎◌}
use Rattle.frozen.specs.Kept.{frozen_view}
use Rattle.directories.specs.Pieces.{IsTable, between}
use Rattle.phase_names.specs.Told.{IsTold}
use Rattle.phase_names.proofs.units.part.Given as goal

abbrev pub invariant-loop-number : goal.invariant-loop-number
invariant-loop-number l = record {
  part : IsTable l.frozen.geometry (frozen_view l.frozen) (IsTold l.frozen.geometry (frozen_view l.frozen)) (between l.piece.first l.number) l.part;
  ends : (l.number ≤ l.piece.past) ⊎ (l.number ≡ l.piece.first);
}
