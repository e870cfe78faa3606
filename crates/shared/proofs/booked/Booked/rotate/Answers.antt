use Rattle.std.proofs.Common.{rules, subst}
use Rattle.shared.specs.Calls.{IsOfSharing}
use Rattle.shared.specs.Shown.{Shown}
use Rattle.shared.proofs.TraceLemmas.{rotated}
use Rattle.shared.proofs.booked.Booked.rotate.Goals as goal

pub invariant_of-self : goal.invariant_of-self
invariant_of-self g c =
    let b = c.self.inside in (
      search rules,
      search rules,
      search rules,
      search rules,
      search rules,
      search rules,
      λ h. rw c.clear.ensures.items (rotated g.D.Device.held g.D.Device.image g.L.Sharing.opens b.before _ b.trace.items b.volume (c.self.invariant.6 h) (search rules) (search rules)),
      search rules,
    )

pub returns-clause-known : goal.returns-clause-known
returns-clause-known g c =
    subst (λ (b : Shown _). IsOfSharing g.D.Device.honest g.D.Device.held g.D.Device.image g.L.Sharing.limit g.L.Sharing.opens b) c.self.view_is
    (record { limit_is = c.self.invariant.7; short = search rules; history = c.self.invariant.6 })

pub returns-in_err-self-inside-clause-known : goal.returns-in_err-self-inside-clause-known
returns-in_err-self-inside-clause-known g c =
    subst (λ (b : Shown _). IsOfSharing g.D.Device.honest g.D.Device.held g.D.Device.image g.L.Sharing.limit g.L.Sharing.opens b) c.self.view_is
    (record { limit_is = c.self.invariant.7; short = search rules; history = c.self.invariant.6 })
