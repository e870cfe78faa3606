use Rattle.std.proofs.Common.{◌≡◌, ◌∙◌, Err, ap, inl, subst, sym}
use Rattle.findings.specs.declared.verdicts.Verdict.TheVariants.{Damaged, Soft}
use Rattle.frozen.specs.Kept.{IsKeptOf}
use Rattle.snapshot.specs.Alive.{Alive}
use Rattle.snapshot.specs.Mounting.{IsMountable}
use Rattle.image_lines.specs.Repaired.{IsRepaired}
use Rattle.image_lines.specs.declared.repair.Outcome.TheVariants.{Mended}
use Rattle.image_lines.proofs.RepairLemmas.{given_out, just_mounted, memory_is_no_device}
use Rattle.image_lines.proofs.repair.mend_device.Goals as goal

pub mount_checked-requires-clause-sound : goal.mount_checked-requires-clause-sound
mount_checked-requires-clause-sound g c = λ bad. let other : Soft ≡ Damaged = sym c.requires.soft ∙ bad in cc

pub returns-in-Err-clause-went : goal.returns-in-Err-clause-went
returns-in-Err-clause-went g c = (ap g.D.Device.image c.in-Err.ensures.untouched, ap g.D.Device.held c.in-Err.ensures.untouched)

pub returns-in-Err-clause-refused : goal.returns-in-Err-clause-refused
returns-in-Err-clause-refused g c = record {
  refuses = λ h. given_out (g.D.Device.honest c.in-Err.field-0.device) (g.D.Device.image c.args.device) _ (inl c.in-Err.ensures.error);
  cause = λ device. absurd (memory_is_no_device _ c.in-Err.ensures.error device);
}

pub returns-in-Err-clause-left : goal.returns-in-Err-clause-left
returns-in-Err-clause-left g c = λ device. memory_is_no_device _ c.in-Err.ensures.error device

pub mend_volume-requires-clause-mounted : goal.mend_volume-requires-clause-mounted
mend_volume-requires-clause-mounted g c =
    let image = g.D.Device.image in
    let honest = g.D.Device.honest in
    let live = c.in-Ok.live in
    let mounted = c.in-Ok.ensures in
    subst (λ (v : Alive g.row.D.Denot). honest v.device → IsMountable v.kept.geometry (image v.device)) (sym c.new-volume.ensures)
    (subst (λ d. honest d → IsMountable live.kept.geometry (image d)) (sym mounted.device) mounted.mounted)

pub mend_volume-requires-clause-kept : goal.mend_volume-requires-clause-kept
mend_volume-requires-clause-kept g c = ap (λ (v : Alive g.row.D.Denot). v.kept) c.new-volume.ensures ∙ c.in-Ok.ensures.kept

pub mend_volume-requires-clause-loaded : goal.mend_volume-requires-clause-loaded
mend_volume-requires-clause-loaded g c =
    subst (λ d. g.D.Device.honest d → IsKeptOf c.args.checked.now.frozen (g.D.Device.image d))
    (sym (ap (λ (v : Alive g.row.D.Denot). v.device) c.new-volume.ensures ∙ c.in-Ok.ensures.device)) c.requires.loaded

pub returns-in-Ok-mend_volume-clause-repaired : goal.returns-in-Ok-mend_volume-clause-repaired
returns-in-Ok-mend_volume-clause-repaired g c = λ h.
    let image = g.D.Device.image in
    let new = c.mend_volume.new.volume in
    let answer = c.in-Ok-mend_volume.answer in
    subst (λ i. IsRepaired i answer.text.items answer.status (Mended new) (image new.device))
    (ap (λ (v : Alive g.row.D.Denot). image v.device) c.new-volume.ensures ∙ ap image c.in-Ok.ensures.device) (c.in-Ok-mend_volume.ensures.repaired h)

pub returns-in-Ok-mend_volume-clause-went : goal.returns-in-Ok-mend_volume-clause-went
returns-in-Ok-mend_volume-clause-went g c =
    let honest = g.D.Device.honest in
    let image = g.D.Device.image in
    let held = g.D.Device.held in
    let mounted = c.in-Ok.ensures in
    record {
      mounted = c.new-volume.result;
      is_mounted = just_mounted honest image held c.args.device c.in-Ok.live c.new-volume.result c.new-volume.ensures mounted.device mounted.pending mounted.fresh mounted.idle mounted.mounted;
      honest_before = c.mend_volume.ensures.honest;
      went = c.mend_volume.ensures.went;
    }

pub returns-in-Err-mend_volume-clause-went : goal.returns-in-Err-mend_volume-clause-went
returns-in-Err-mend_volume-clause-went g c =
    let honest = g.D.Device.honest in
    let image = g.D.Device.image in
    let held = g.D.Device.held in
    let mounted = c.in-Ok.ensures in
    record {
      mounted = c.new-volume.result;
      is_mounted = just_mounted honest image held c.args.device c.in-Ok.live c.new-volume.result c.new-volume.ensures mounted.device mounted.pending mounted.fresh mounted.idle mounted.mounted;
      honest_before = c.mend_volume.ensures.honest;
      went = c.mend_volume.ensures.went;
    }

pub returns-in-Err-mend_volume-clause-refused : goal.returns-in-Err-mend_volume-clause-refused
returns-in-Err-mend_volume-clause-refused g c =
    let honest = g.D.Device.honest in
    let image = g.D.Device.image in
    let held = g.D.Device.held in
    let mounted = c.in-Ok.ensures in
    record {
      refuses = λ h. given_out (honest c.mend_volume.new.volume.device) (image c.args.device) _ (c.in-Err-mend_volume.ensures.error h);
      cause = λ e. (c.new-volume.result, just_mounted honest image held c.args.device c.in-Ok.live c.new-volume.result c.new-volume.ensures mounted.device mounted.pending mounted.fresh mounted.idle mounted.mounted, c.in-Err-mend_volume.ensures.cause (ap Err e));
    }
