use Rattle.std.proofs.Common.{◌-◌, ◌<◌, ◌≤◌, length}
use Rattle.model.specs.Layout.{group_block}
use Rattle.live_snapshots.specs.Unmarked.{IsUnmarked, held_between}
use Rattle.live_snapshots.proofs.held.clear_bits.Given as goal

-- the bits of what is held below this address are cleared
abbrev pub invariant-loop-next : goal.invariant-loop-next
invariant-loop-next l =
    IsUnmarked l.geometry (group_block l.geometry l.group) (held_between l.holdings l.fn.address l.end) l.fn.maps l.maps × (l.fn.address < l.end) × (l.end ≤ length l.holdings.held)

abbrev pub decreases-loop-next : goal.decreases-loop-next
decreases-loop-next l = length l.holdings.held - l.end
