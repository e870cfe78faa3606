use Rattle.std.proofs.Common.{sym, subst}
use Rattle.snapshot.specs.Alive.{Alive}
use Rattle.snapshot.specs.Mounting.{IsMountable}
use Rattle.test_trials.proofs.stops.mended_volume.Goals as goal

pub mend-requires-clause-mounted : goal.mend-requires-clause-mounted
mend-requires-clause-mounted g c = λ κs lives.
    let image = g.D.Device.image in
    let live = c.in_ok-mount.field-0 in
    subst (λ (v : Alive g.row.D.Denot). g.D.Device.honest v.device → IsMountable v.kept.geometry (image v.device)) (sym c.new-volume.ensures)
    (λ h. subst (λ i. IsMountable live.kept.geometry i) (sym c.in_ok-mount.ensures.image) (c.in_ok-mount.ensures.mounted h))
