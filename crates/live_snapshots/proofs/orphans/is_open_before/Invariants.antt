use Rattle.std.proofs.Common.{◌≡◌, ◌<◌, ℕ, false}
use Rattle.live_holdings.proofs.Tables.{is_on}
use Rattle.live_holdings.specs.Handles.{handle_at}
use Rattle.live_snapshots.proofs.orphans.is_open_before.Given as goal

-- no handle so far is open on the number
abbrev pub invariant-loop-earlier : goal.invariant-loop-earlier
invariant-loop-earlier l = (h : ℕ) → h < l.earlier → is_on l.number (handle_at l.holdings h) ≡ false
