use Rattle.std.proofs.Common.{◌+◌, ◌-◌, length}
use Rattle.frozen.specs.Kept.{frozen_view}
use Rattle.model.specs.Layout.{inode_count}
use Rattle.connectivity.specs.Walk.{IsWalk}
use Rattle.connectivity.proofs.alone.walk.Given as goal

abbrev pub invariant-loop-alloc : goal.invariant-loop-alloc
invariant-loop-alloc l = IsWalk l.frozen.geometry (frozen_view l.frozen) l.whole l.reached.keys l.round.items

abbrev pub decreases-loop-alloc : goal.decreases-loop-alloc
decreases-loop-alloc l = inode_count l.frozen.geometry - length l.reached.keys + length l.round.items
