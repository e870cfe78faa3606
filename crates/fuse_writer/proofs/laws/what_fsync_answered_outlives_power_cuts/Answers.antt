use Rattle.std.proofs.Common.{refl}
use Rattle.snapshot.specs.Stages.{Stage}
use Rattle.fuse_writer.proofs.laws.what_fsync_answered_outlives_power_cuts.Goals as goal

pub returns : goal.returns
returns g c = λ first then now calls more has goes after honest sound none.
    let held = g.D.Device.held in
    let image = g.D.Device.image in
    let one = goes.runs (after.honest_before honest) has.beside has.is in
    let two = after.runs honest one.0 one.3.is in
    let s : Stage _ = record { volume = first; beside = has.beside; held = held first.device; image = image first.device } in
    let t : Stage _ = record { volume = then; beside = one.0; held = held then.device; image = image then.device } in
    let u : Stage _ = record { volume = now; beside = two.0; held = held now.device; image = image now.device } in (
      t,
      u,
      record { volume_is = refl; held_is = refl; image_is = refl },
      record { volume_is = refl; held_is = refl; image_is = refl },
      λ files there.
          let kept = c.what_a_sync_has_seen_outlives_power_cuts.ensures s t u _ _ one.1 two.1 has.is one.3 sound (none, g.met.D.Device.answers then.device) files there two.3 in
          (kept.0, two.1, two.2, kept.1),
    )
