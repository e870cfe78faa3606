use Rattle.std.proofs.Common.{◌≡◌, ◌≤◌, ◌⊎◌, length}
use Rattle.frozen.specs.Kept.{frozen_view}
use Rattle.refcounts.specs.Parts.{Name}
use Rattle.refcounts.proofs.PartLemmas.{below}
use Rattle.refcounts.proofs.reading.part.Given as goal

abbrev pub invariant-loop-directory : goal.invariant-loop-directory
invariant-loop-directory l = record {
  groups : length l.part ≡ l.frozen.geometry.groups;
  named : Name l.frozen.geometry (frozen_view l.frozen) (below l.frozen.geometry (frozen_view l.frozen) l.reached l.piece.first l.directory) l.part;
  ends : (l.directory ≤ l.piece.past) ⊎ (l.directory ≡ l.piece.first);
}
