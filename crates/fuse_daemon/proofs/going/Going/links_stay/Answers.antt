use Rattle.fuse_daemon.specs.Services.{LinksStay}
use Rattle.fuse_daemon.proofs.WentLemmas.{went_on}
use Rattle.fuse_daemon.proofs.going.Going.links_stay.Goals as goal

pub invariant_of-self : goal.invariant_of-self
invariant_of-self g c = went_on g.D.Device.honest g.D.Device.held g.D.Device.image g.B.Beginning.begins c.self.inside.desk c.links_stay.new.self
    c.self.invariant (LinksStay c.links_stay.ensures.calls c.links_stay.ensures.session) c.links_stay.ensures.goes
