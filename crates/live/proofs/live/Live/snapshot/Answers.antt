use Rattle.std.proofs.Common.{subst}
use Rattle.machine.specs.Standing.{image_at}
use Rattle.live.specs.Alive.{Alive, IsSnapshotOf}
use Rattle.live.proofs.Whole.{whole_at}
use Rattle.live.proofs.live.Live.snapshot.Goals as goal

pub returns-clause-whole : goal.returns-clause-whole
returns-clause-whole g c = subst (λ (l : Alive _). IsSnapshotOf l.kept.geometry (image_at l.holdings.snapshots.standing c.args.number)) c.self.view_is
    (whole_at c.self.inside.metadata.geometry c.self.inside.holdings.snapshots c.self.invariant.snapshots c.args.number)
