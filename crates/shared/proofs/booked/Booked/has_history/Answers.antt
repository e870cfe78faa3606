use Rattle.std.proofs.Common.{rules, subst}
use Rattle.shared.specs.Calls.{IsOfSharing}
use Rattle.shared.specs.Shown.{Shown}
use Rattle.shared.proofs.booked.Booked.has_history.Goals as goal

pub returns : goal.returns
returns g c =
    subst (λ (b : Shown _). IsOfSharing g.D.Device.honest g.D.Device.held g.D.Device.image g.L.Sharing.limit g.L.Sharing.opens b) c.self.view_is
    (record { limit_is = c.self.invariant.7; short = search rules; history = c.self.invariant.6 })
