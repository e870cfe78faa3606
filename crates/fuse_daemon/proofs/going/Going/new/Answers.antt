use Rattle.fuse_daemon.proofs.WentLemmas.{went_nowhere}
use Rattle.fuse_daemon.proofs.going.Going.new.Goals as goal

pub invariant_of-result : goal.invariant_of-result
invariant_of-result g c = went_nowhere g.D.Device.honest g.D.Device.held g.D.Device.image g.B.Beginning.begins c.args.desk c.requires
