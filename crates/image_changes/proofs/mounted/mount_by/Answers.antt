use Rattle.std.proofs.Common.{◌≡◌, ◌∙◌, ap, length, subst, sym}
use Rattle.std.proofs.lemmas.Result.{IfErr-weaker, IfOk-weaker}
use Rattle.device.specs.Writes.{HasFailed}
use Rattle.frozen.specs.Kept.{IsKeptOf}
use Rattle.frozen.specs.Loading.{LoadRefuses}
use Rattle.joint_devices.specs.Joined.{AllHonest, Joined}
use Rattle.rules.specs.Loading.{LoadSoundRefuses}
use Rattle.snapshot.specs.Mounting.{IsMountable}
use Rattle.image_changes.proofs.MountLemmas.{of_both, of_three}
use Rattle.image_changes.proofs.mounted.mount_by.Goals as goal

pub mount_loaded-requires : goal.mount_loaded-requires
mount_loaded-requires g c =
    let honest = g.D.Device.honest in
    let image = g.D.Device.image in
    let reads = c.load_by-loaded.ensures.reads in
    record {
      loaded = IfOk-weaker c.load_by-loaded.result _ _ (λ frozen kept.
          subst (λ (joint : Joined g.row.D.Denot). AllHonest honest joint → IsKeptOf frozen (image joint.device)) (sym c.new.ensures) (λ h. subst (IsKeptOf frozen) (sym reads.same) (kept h.0 h.1))) c.load_by-loaded.ensures.ok;
      count = IfOk-weaker c.load_by-loaded.result _ _ (λ frozen count. ap (λ (joint : Joined g.row.D.Denot). length (image joint.device)) c.new.ensures ∙ ap length reads.same ∙ count) c.load_by-loaded.ensures.count;
      refused = IfErr-weaker c.load_by-loaded.result _ _ (λ r refuses.
          subst (λ (joint : Joined g.row.D.Denot). LoadRefuses (AllHonest honest joint) (image joint.device) r) (sym c.new.ensures)
          (subst (λ i. LoadRefuses (AllHonest honest (record { device = c.load_by-loaded.new.device; readers = c.load_by-loaded.new.others.items })) i r) (sym reads.same) refuses)) c.load_by-loaded.ensures.refused;
    }

pub returns : goal.returns
returns g c =
    let honest = AllHonest g.D.Device.honest in
    let image = g.D.Device.image in
    let held = g.D.Device.held in
    let reads = c.load_by-loaded.ensures.reads in
    let after : Joined g.row.D.Denot = record { device = c.load_by-loaded.new.device; readers = c.load_by-loaded.new.others.items } in
    let joint : c.new.result ≡ after = c.new.ensures in
    let mounted = c.mount_loaded.ensures in
    let same = ap (λ (j : Joined g.row.D.Denot). image j.device) joint ∙ reads.same in
    let had = ap (λ (j : Joined g.row.D.Denot). held j.device) joint ∙ reads.held in
    record {
      image = IfOk-weaker c.mount_loaded.result _ _ (λ volume is. ap (λ (j : Joined g.row.D.Denot). image j.device) is ∙ same) mounted.device;
      held = IfOk-weaker c.mount_loaded.result _ _ (λ volume is. ap (λ (j : Joined g.row.D.Denot). held j.device) is ∙ had) mounted.device;
      pending = mounted.pending;
      fresh = mounted.fresh;
      idle = mounted.idle;
      mounted = of_both c.mount_loaded.result _ _ _ (λ volume is mounted h. subst (λ i. IsMountable volume.kept.geometry i) same (mounted (subst honest is h))) mounted.device mounted.mounted;
      refused = of_three c.mount_loaded.result _ _ _ _ (λ refused is refuses cause. record {
        image_stays = ap (λ (j : Joined g.row.D.Denot). image j.device) is ∙ same;
        held_stays = ap (λ (j : Joined g.row.D.Denot). held j.device) is ∙ had;
        refuses = subst (λ (j : Joined g.row.D.Denot). LoadSoundRefuses (honest j) (image c.args.device) refused.cause) (sym is) (subst (λ i. LoadSoundRefuses (honest c.new.result) i refused.cause) same refuses);
        cause = λ device. subst (λ n. HasFailed (g.D.Device.failures c.args.device) n) (ap (λ (j : Joined g.row.D.Denot). g.D.Device.failures j.device) (sym (is ∙ joint))) (c.load_by-loaded.ensures.cause (cause device));
      }) mounted.untouched mounted.refused mounted.cause;
    }
