use Rattle.std.proofs.Common.{◌∙◌, Err, ap, length, sym, subst}
use Rattle.std.proofs.lemmas.Result.{IfOk-weaker}
use Rattle.frozen.specs.Kept.{IsKeptOf}
use Rattle.joint_devices.specs.Joined.{AllHonest, Joined, of_device}
use Rattle.rules.specs.Loading.{LoadSoundRefuses}
use Rattle.snapshot.specs.Mounting.{IsMountable}
use Rattle.image_changes.specs.GivenBack.{IsGivenBack}
use Rattle.image_changes.proofs.MountLemmas.{both_refused, load_refused, of_both, sound_refused}
use Rattle.image_lines.proofs.mounting.mount.Goals as goal

pub mount_unless_damaged-requires-clause-loaded : goal.mount_unless_damaged-requires-clause-loaded
mount_unless_damaged-requires-clause-loaded g c =
    let kept = c.in-Ok.checked.frozen in
    subst (λ (joint : Joined g.row.D.Denot). AllHonest g.D.Device.honest joint → IsKeptOf kept (g.D.Device.image joint.device)) (sym c.new-device.ensures)
    (λ h. subst (IsKeptOf kept) (sym c.check_by-checked.ensures.reads.same) (c.in-Ok.ensures.loaded h.0 h.1))

pub mount_unless_damaged-requires-clause-count : goal.mount_unless_damaged-requires-clause-count
mount_unless_damaged-requires-clause-count g c =
    ap (λ (joint : Joined g.row.D.Denot). length (g.D.Device.image joint.device)) c.new-device.ensures ∙ ap length c.check_by-checked.ensures.reads.same ∙ c.in-Ok.ensures.count

pub returns-in-Err-clause-refused : goal.returns-in-Err-clause-refused
returns-in-Err-clause-refused g c =
    let honest = AllHonest g.D.Device.honest in
    let image = g.D.Device.image in
    let reads = c.check_by-checked.ensures.reads in
    subst (λ (joint : Joined g.row.D.Denot). IsGivenBack honest (of_device image) (of_device g.D.Device.held) (of_device g.D.Device.failures) (record { device = c.args.device; readers = c.args.others.items }) (record { device = joint; cause = c.in-Err.cause })) (sym c.new-device.ensures)
    (record {
      image_stays = reads.same;
      held_stays = reads.held;
      refuses = load_refused (honest (record { device = c.check_by-checked.new.device; readers = c.check_by-checked.new.others.items })) (image c.args.device) _ c.in-Err.ensures.refused;
      cause = λ e. c.in-Err.ensures.cause (ap Err e);
    })

pub returns-in-Ok : goal.returns-in-Ok
returns-in-Ok g c =
    let honest = AllHonest g.D.Device.honest in
    let image = g.D.Device.image in
    let held = g.D.Device.held in
    let reads = c.check_by-checked.ensures.reads in
    let joint = c.new-device.ensures in
    let live = c.mount_unless_damaged.ensures in
    let same = ap (λ (j : Joined g.row.D.Denot). image j.device) joint ∙ reads.same in
    let had = ap (λ (j : Joined g.row.D.Denot). held j.device) joint ∙ reads.held in
    record {
      image = IfOk-weaker c.mount_unless_damaged.result _ _ (λ live is. ap (λ (j : Joined g.row.D.Denot). image j.device) is ∙ same) live.device;
      held = IfOk-weaker c.mount_unless_damaged.result _ _ (λ live is. ap (λ (j : Joined g.row.D.Denot). held j.device) is ∙ had) live.device;
      pending = live.pending;
      fresh = live.fresh;
      idle = live.idle;
      mounted = of_both c.mount_unless_damaged.result _ _ _ (λ live is mounted h. subst (λ i. IsMountable live.kept.geometry i) same (mounted (subst honest is h))) live.device live.mounted;
      refused = both_refused c.mount_unless_damaged.result _ _ _ (λ refused is told.
          let sound = sound_refused (honest c.new-device.result) (image c.new-device.result.device) refused.cause told in
          record {
            image_stays = ap (λ (j : Joined g.row.D.Denot). image j.device) is ∙ same;
            held_stays = ap (λ (j : Joined g.row.D.Denot). held j.device) is ∙ had;
            refuses = subst (λ (j : Joined g.row.D.Denot). LoadSoundRefuses (honest j) (image c.args.device) refused.cause) (sym is) (subst (λ i. LoadSoundRefuses (honest c.new-device.result) i refused.cause) same sound.0);
            cause = λ device. absurd (sound.1 device);
          }) live.untouched live.refused;
    }
