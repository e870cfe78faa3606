use Rattle.std.proofs.Common.{◌≡◌, ◌∙◌, IfOk, ap, subst, sym}
use Rattle.std.proofs.lemmas.Result.{IfErr-weaker, IfOk-weaker}
use Rattle.layout.specs.declared.refusal.Refusal.TheVariants.{Device, NoMemory}
use Rattle.frozen.specs.Kept.{IsKeptOf}
use Rattle.live.specs.Mounting.{IsMountable}
use Rattle.rules.specs.Loading.{LoadSoundRefuses}
use Rattle.live.proofs.Mounting.{with_both}
use Rattle.live.proofs.live.Live.mount.Goals as goal

pub mount_loaded-requires-clause-loaded : goal.mount_loaded-requires-clause-loaded
mount_loaded-requires-clause-loaded g c = λ honest.
    let image = g.D.Device.image in
    subst (λ i. IsKeptOf c.in-Ok.frozen i) (sym c.load_sound.ensures.reads.same)
    (subst (λ loaded. IfOk loaded (λ frozen. g.D.Device.honest c.load_sound.new.device → IsKeptOf frozen (image c.args.device))) c.in-Ok.is c.load_sound.ensures.ok honest)

pub returns-in-Ok : goal.returns-in-Ok
returns-in-Ok g c =
    let honest = g.D.Device.honest in
    let image = g.D.Device.image in
    let held = g.D.Device.held in
    let device = c.load_sound.new.device in
    let reads = c.load_sound.ensures.reads in
    let live = c.mount_loaded.ensures in
    record {
      image = IfOk-weaker c.mount_loaded.result _ _ (λ live same. ap image same ∙ reads.same) live.device;
      held = IfOk-weaker c.mount_loaded.result _ _ (λ live same. ap held same ∙ reads.held) live.device;
      pending = live.pending;
      fresh = live.fresh;
      idle = live.idle;
      mounted = with_both c.mount_loaded.result _ _ _ live.device live.mounted (λ live same mounted h. subst (λ i. IsMountable live.kept.geometry i) reads.same (mounted (subst honest same h)));
      untouched = IfErr-weaker c.mount_loaded.result _ _ (λ refused same. (ap image same ∙ reads.same, ap held same ∙ reads.held)) live.untouched;
      refused = IfErr-weaker c.mount_loaded.result _ _ (λ refused e. subst (LoadSoundRefuses (honest refused.device) (image c.args.device)) (sym e) tt) live.error;
      cause = IfErr-weaker c.mount_loaded.result _ _ (λ refused e device. let bad : Device ≡ NoMemory = sym device ∙ e in cc) live.error;
    }
