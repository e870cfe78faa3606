use Rattle.std.proofs.Common.{◌≡◌, ◌≤◌, ◌+◌, length}
use Rattle.frozen.specs.Kept.{frozen_view}
use Rattle.loaders.specs.Looking.{AreKindsFrom}
use Rattle.loaders.proofs.looking.kinds_of_group.Given as goal

abbrev pub invariant-loop-number : goal.invariant-loop-number
invariant-loop-number l = record {
  below : l.number ≤ l.first + l.inodes;
  count : l.first + length l.kinds.items ≡ l.number;
  kinds : AreKindsFrom l.held.geometry (frozen_view l.held) l.first l.kinds.items;
}
