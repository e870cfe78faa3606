use Rattle.std.proofs.Common.{sym, subst}
use Rattle.snapshot.specs.Alive.{Alive}
use Rattle.snapshot.specs.Mounting.{IsMountable}
use Rattle.image_changes.proofs.mounted.mount.Goals as goal

pub returns-in-Ok-clause-mounted : goal.returns-in-Ok-clause-mounted
returns-in-Ok-clause-mounted g c =
    subst (λ (l : Alive _). g.D.Device.honest l.device → IsMountable l.kept.geometry (g.D.Device.image c.args.device)) (sym c.new.ensures) c.in-Ok.ensures.mounted

pub returns-in-Err-clause-refused : goal.returns-in-Err-clause-refused
returns-in-Err-clause-refused g c =
    let e = c.in-Err.ensures in
    record { image_stays = e.untouched.0; held_stays = e.untouched.1; refuses = e.refused; cause = e.cause }
