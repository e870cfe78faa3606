use Rattle.std.proofs.Common.{◌≡◌, ◌≤◌, ◌⊎◌}
use Rattle.frozen.specs.Kept.{frozen_view}
use Rattle.model.specs.Named.{named_from}
use Rattle.directories.specs.Pieces.{IsTable, between}
use Rattle.directories.proofs.reading.named.Given as goal

abbrev pub invariant-loop-number : goal.invariant-loop-number
invariant-loop-number l = record {
  table : IsTable l.frozen.geometry (frozen_view l.frozen) (λ d named. named ≡ named_from l.frozen.geometry (frozen_view l.frozen) l.first d) (between l.piece.first l.number) l.named;
  ends : (l.number ≤ l.piece.past) ⊎ (l.number ≡ l.piece.first);
}
