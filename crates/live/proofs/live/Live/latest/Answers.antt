use Rattle.std.proofs.Common.{subst}
use Rattle.machine.specs.Standing.{latest_at}
use Rattle.live.specs.Alive.{Alive, IsSnapshotOf}
use Rattle.live.proofs.Whole.{whole_latest}
use Rattle.live.proofs.live.Live.latest.Goals as goal

pub returns-clause-whole : goal.returns-clause-whole
returns-clause-whole g c = subst (λ (l : Alive _). IsSnapshotOf l.kept.geometry (latest_at l.holdings.snapshots.standing l.holdings.snapshots.freezes)) c.self.view_is
    (whole_latest c.self.inside.metadata.geometry c.self.inside.holdings.snapshots c.self.invariant.snapshots)
