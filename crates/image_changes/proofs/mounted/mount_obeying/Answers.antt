use Rattle.std.proofs.Common.{sym, subst}
use Rattle.live_states.specs.Holdings.{IsIdle}
use Rattle.snapshot.specs.Alive.{Alive}
use Rattle.snapshot.specs.Mounting.{IsMountable}
use Rattle.image_changes.proofs.mounted.mount_obeying.Goals as goal

pub returns-in-Ok-clause-mounted : goal.returns-in-Ok-clause-mounted
returns-in-Ok-clause-mounted g c =
    subst (λ (l : Alive _). g.D.Device.honest c.args.device → IsMountable l.kept.geometry (g.D.Device.image c.args.device)) (sym c.new.ensures) c.in-Ok.ensures.mounted

pub returns-in-Ok-clause-idle : goal.returns-in-Ok-clause-idle
returns-in-Ok-clause-idle g c = subst (λ (l : Alive _). IsIdle l.holdings) (sym c.new.ensures) c.in-Ok.ensures.idle
