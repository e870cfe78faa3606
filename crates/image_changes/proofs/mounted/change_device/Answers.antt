use Rattle.std.proofs.Common.{Err, ap, length, subst, take}
use Rattle.std.proofs.lemmas.Result.{err_from_is_err_and}
use Rattle.image_changes.specs.Changes.{Changes}
use Rattle.image_changes.proofs.mounted.change_device.Goals as goal

pub returns-in_err-volume-clause-refused : goal.returns-in_err-volume-clause-refused
returns-in_err-volume-clause-refused g c =
    let p = err_from_is_err_and c.from_residual.result c.from_residual.ensures.1 in
    rw (p.1, p.2) c.in_err-volume.ensures.refused

pub returns-in-Ok-clause-changed : goal.returns-in-Ok-clause-changed
returns-in-Ok-clause-changed g c = λ honest.
    let held = g.D.Device.held in
    let image = g.D.Device.image in
    let old = c.in_ok-volume.volume in
    let new = c.change.new.volume in
    let replies = c.in-Ok.replies.items in
    record {
      mounted = old;
      mountable = c.in_ok-volume.ensures.mounted (c.change.ensures.honest honest);
      pending = c.in_ok-volume.ensures.pending;
      fresh = c.in_ok-volume.ensures.fresh;
      idle = c.in_ok-volume.ensures.idle;
      changes = subst (λ h. Changes h (image c.args.device) old (take (length replies) c.args.commands.now) replies (held new.device) (image new.device) new) c.in_ok-volume.ensures.held
          (subst (λ i. Changes (held old.device) i old (take (length replies) c.args.commands.now) replies (held new.device) (image new.device) new) c.in_ok-volume.ensures.image (c.in-Ok.ensures.changed honest));
    }

pub returns-in-Err-clause-refused : goal.returns-in-Err-clause-refused
returns-in-Err-clause-refused g c =
    let mounted = c.in_ok-volume.ensures in
    record {
      mounted = c.in_ok-volume.volume;
      is_mounted = record { image_stays = mounted.image; held_stays = mounted.held; mountable = mounted.mounted; pending = mounted.pending; fresh = mounted.fresh; idle = mounted.idle };
      honest_before = c.change.ensures.honest;
      went = c.in-Err.ensures.went;
      gives_out = c.in-Err.ensures.error;
      cause = λ device. c.in-Err.ensures.cause (ap Err device);
    }
