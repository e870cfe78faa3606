use Rattle.std.proofs.Common.{refl}
use Rattle.live.proofs.Flushes.{still_live}
use Rattle.live.proofs.live.Live.device_block.Goals as goal

pub invariant_of-self : goal.invariant_of-self
invariant_of-self g c =
    let old = c.self.inside.device in
    let new = c.read.new.self in
    let queue = c.self.inside.queue in
    still_live (g.D.Device.honest old) (g.D.Device.honest new) (g.D.Device.image old) (g.D.Device.image new) queue queue c.self.inside.metadata c.self.inside.holdings c.self.invariant
    refl c.read.ensures.same c.read.ensures.honest
