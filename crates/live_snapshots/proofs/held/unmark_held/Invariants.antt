use Rattle.std.proofs.Common.{◌-◌, ◌≤◌, length}
use Rattle.live_snapshots.specs.Unmarked.{Unmarks, held_between}
use Rattle.live_snapshots.proofs.held.unmark_held.Given as goal

-- what is held below this address is unmarked
abbrev pub invariant-loop-address : goal.invariant-loop-address
invariant-loop-address l = Unmarks l.fn.frozen (held_between l.holdings 0 l.from) l.frozen × (l.from ≤ length l.holdings.held)

abbrev pub decreases-loop-address : goal.decreases-loop-address
decreases-loop-address l = length l.holdings.held - l.from
