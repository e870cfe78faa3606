use Rattle.std.proofs.Common.{subst}
use Rattle.std.specs.Prelude.{Bool, List}
use Rattle.model.specs.Rules.{ObeysRules}
use Rattle.ordering.specs.Cuts.{IsClosed, seen}
use Rattle.softdep.specs.Queued.{pending_of}
use Rattle.live.specs.Alive.{Alive, StandsSo, disk_of}
use Rattle.live.proofs.live.Live.device.Goals as goal

pub returns-clause-obeys : goal.returns-clause-obeys
returns-clause-obeys g c = subst (λ (l : Alive _). g.D.Device.honest l.device → ObeysRules l.kept.geometry (disk_of (g.D.Device.image l.device) l)) c.self.view_is
    (λ h. (c.each_stop_of_a_volume_is_safe.ensures c.self.inside.metadata _ _ _ (c.self.invariant.alive.true h)).0)

pub returns-clause-stands : goal.returns-clause-stands
returns-clause-stands g c = subst (λ (l : Alive _). g.D.Device.honest l.device → StandsSo (g.D.Device.image l.device) l) c.self.view_is
    (λ h. let volume = c.self.invariant.alive.true h in record {
      beside = volume.beside;
      belongs = volume.snapshots;
      stands = volume.beginning.stands;
      framed = c.self.invariant.framed h;
      begun = record { mount = volume.mount; history = volume.history; cut = volume.cut; moment = volume.beginning.moment };
    })

pub returns-clause-stops : goal.returns-clause-stops
returns-clause-stops g c = subst (λ (l : Alive _). g.D.Device.honest l.device → (cut : List Bool) → IsClosed (pending_of l.queue) cut → ObeysRules l.kept.geometry (seen (disk_of (g.D.Device.image l.device) l) (pending_of l.queue) cut)) c.self.view_is
    (λ h. (c.each_stop_of_a_volume_is_safe.ensures c.self.inside.metadata _ _ _ (c.self.invariant.alive.true h)).1)
