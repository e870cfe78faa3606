use Rattle.std.proofs.Common.{IfErr, Result, subst}
use Rattle.std.proofs.lemmas.Result.{IfErr-weaker}
use Rattle.frozen.specs.Kept.{Kept}
use Rattle.frozen.specs.Loading.{LoadRefuses}
use Rattle.layout.specs.declared.refusal.Refusal.{Refusal}
use Rattle.image_changes.proofs.MountLemmas.{load_refused, sound_refused}
use Rattle.image_changes.proofs.mounted.mount_loaded.Goals as goal

pub returns-in-Ok-clause-refused : goal.returns-in-Ok-clause-refused
returns-in-Ok-clause-refused g c =
    IfErr-weaker c.mount_sound.result _ _ (λ refused told. (sound_refused (g.D.Device.honest c.args.device) (g.D.Device.image c.args.device) refused.cause told).0) c.mount_sound.ensures.refused

pub returns-in-Ok-clause-cause : goal.returns-in-Ok-clause-cause
returns-in-Ok-clause-cause g c =
    IfErr-weaker c.mount_sound.result _ _ (λ refused told device. absurd ((sound_refused (g.D.Device.honest c.args.device) (g.D.Device.image c.args.device) refused.cause told).1 device)) c.mount_sound.ensures.refused

pub returns-in-Err-clause-refused : goal.returns-in-Err-clause-refused
returns-in-Err-clause-refused g c = load_refused (g.D.Device.honest c.args.device) (g.D.Device.image c.args.device) c.in-Err.cause
    (subst (λ (r : Result Kept Refusal). IfErr r (LoadRefuses (g.D.Device.honest c.args.device) (g.D.Device.image c.args.device))) c.in-Err.is c.requires.refused)
