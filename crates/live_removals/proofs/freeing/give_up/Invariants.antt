use Rattle.std.proofs.Common.{◌≡◌, ◌≤◌}
use Rattle.frozen.specs.Kept.{frozen_view}
use Rattle.plans_data.specs.Freeing.{cleared}
use Rattle.live_states.specs.Drafts.{GoesOn}
use Rattle.live_states.specs.Holdings.{is_kept_by}
use Rattle.live_removals.specs.Blocks.{gone_below, is_loose}
use Rattle.live_removals.proofs.freeing.give_up.Given as goal

-- the blocks at the positions before are freed or held
abbrev pub invariant-loop-position : goal.invariant-loop-position
invariant-loop-position l =
    GoesOn l.fn.plan l.plan (cleared l.number (gone_below (is_loose l.holdings) l.frozen.geometry (frozen_view l.frozen) l.number l.left l.position))
    × (l.holds.items ≡ gone_below (is_kept_by l.holdings) l.frozen.geometry (frozen_view l.frozen) l.number l.left l.position)
    × (l.start ≤ l.position) × (l.position ≤ l.end)

abbrev pub invariant-loop-table : goal.invariant-loop-table
invariant-loop-table l =
    GoesOn l.fn.plan l.plan (cleared l.number (gone_below (is_loose l.holdings) l.frozen.geometry (frozen_view l.frozen) l.number l.left l.table))
    × (l.holds.items ≡ gone_below (is_kept_by l.holdings) l.frozen.geometry (frozen_view l.frozen) l.number l.left l.table)
    × (l.first ≤ l.table) × (l.table ≤ l.last)
