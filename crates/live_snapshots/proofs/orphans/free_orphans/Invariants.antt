use Rattle.std.proofs.Common.{◌≤◌}
use Rattle.live_snapshots.proofs.Finding.{FreesFound}
use Rattle.live_snapshots.proofs.orphans.free_orphans.Given as goal

-- the orphans that the handles below this one are open on are freed
abbrev pub invariant-loop-handle : goal.invariant-loop-handle
invariant-loop-handle l = FreesFound l.frozen l.holdings l.handle l.updates.items × (l.handle ≤ 1024)
