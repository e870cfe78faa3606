use Rattle.fuse_daemon.specs.Services.{Between}
use Rattle.fuse_daemon.proofs.WentLemmas.{went_on}
use Rattle.fuse_daemon.proofs.going.Going.ask.Goals as goal

pub invariant_of-self : goal.invariant_of-self
invariant_of-self g c = went_on g.D.Device.honest g.D.Device.held g.D.Device.image g.B.Beginning.begins c.self.inside.desk c.ask.new.self
    c.self.invariant (Between c.args.command.now c.ask.result c.requires c.ask.ensures.calls c.ask.ensures.same) c.ask.ensures.goes
