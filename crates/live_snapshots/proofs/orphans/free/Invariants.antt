use Rattle.std.proofs.Common.{◌≤◌, eqb}
use Rattle.frozen.specs.Kept.{frozen_view}
use Rattle.live_snapshots.specs.Orphans.{FreesToo, is_claimed_below}
use Rattle.live_snapshots.proofs.orphans.free.Given as goal

-- the number is freed, and so are the blocks at the positions before
abbrev pub invariant-loop-position : goal.invariant-loop-position
invariant-loop-position l =
    FreesToo l.frozen.geometry (λ i. eqb i l.number) (is_claimed_below l.frozen.geometry (frozen_view l.frozen) l.number l.position) l.fn.updates.items l.updates.items
    × (l.position ≤ l.end)

abbrev pub invariant-loop-table : goal.invariant-loop-table
invariant-loop-table l =
    FreesToo l.frozen.geometry (λ i. eqb i l.number) (is_claimed_below l.frozen.geometry (frozen_view l.frozen) l.number l.table) l.fn.updates.items l.updates.items
    × (l.table ≤ l.last)
