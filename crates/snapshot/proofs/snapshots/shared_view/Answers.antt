use Rattle.std.proofs.Common.{sym, subst}
use Rattle.machine.specs.Snapshot.{settled}
use Rattle.metadata.specs.Shown.{Shows}
use Rattle.snapshot.proofs.snapshots.shared_view.Goals as goal

pub returns-clause-settled : goal.returns-clause-settled
returns-clause-settled g c = λ old shows has. subst (λ k. Shows k (settled c.args.live.now.kept.geometry old)) (sym c.in_ok-kept.ensures.ok) (c.in_ok-view.ensures.settled old shows has)
