use Rattle.std.proofs.Common.{◌≡◌, ◌-◌, ◌≤◌, length}
use Rattle.machine.specs.Standing.{others}
use Rattle.live_holdings.specs.Alone.{alone_below}
use Rattle.live_holdings.proofs.marked_alone.Given as goal

-- those so far
abbrev pub invariant-loop-block : goal.invariant-loop-block
invariant-loop-block l =
    (l.from ≤ length l.fn.marks) × (l.blocks.items ≡ alone_below l.fn.marks (others l.fn.snapshots.standing l.fn.number) l.from)

abbrev pub decreases-loop-block : goal.decreases-loop-block
decreases-loop-block l = length l.fn.marks - l.from
