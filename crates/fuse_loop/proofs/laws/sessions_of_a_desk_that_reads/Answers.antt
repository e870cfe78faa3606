use Rattle.fuse_loop.proofs.ViewedLemmas.{all_viewed, leaves_viewed, stays_viewed}
use Rattle.fuse_loop.proofs.laws.sessions_of_a_desk_that_reads.Goals as goal

pub returns-clause-answered : goal.returns-clause-answered
returns-clause-answered g c = all_viewed g.D.Device.honest g.D.Device.image g.D.Device.held g.D.Device.failures

pub returns-clause-stays : goal.returns-clause-stays
returns-clause-stays g c = stays_viewed g.D.Device.honest g.D.Device.image g.D.Device.held g.D.Device.failures

pub returns-clause-left : goal.returns-clause-left
returns-clause-left g c = leaves_viewed g.D.Device.honest g.D.Device.image g.D.Device.held g.D.Device.failures
