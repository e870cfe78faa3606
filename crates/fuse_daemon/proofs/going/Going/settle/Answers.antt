use Rattle.fuse_daemon.specs.Services.{Settled}
use Rattle.fuse_daemon.proofs.WentLemmas.{went_on}
use Rattle.fuse_daemon.proofs.going.Going.settle.Goals as goal

pub invariant_of-self : goal.invariant_of-self
invariant_of-self g c = went_on g.D.Device.honest g.D.Device.held g.D.Device.image g.B.Beginning.begins c.self.inside.desk c.settle.new.self
    c.self.invariant (Settled c.args.from c.args.count _ c.settle.ensures.does) c.settle.ensures.goes
