use Rattle.std.proofs.Common.{◌≡◌, inl, inr, refl, subst, MatchOption, Option, ℕ}
use Rattle.std.proofs.lemmas.Result.{IfErr-weaker}
use Rattle.frozen.specs.Kept.{frozen_view}
use Rattle.model.specs.Rules.{IsLeastBroken, ObeysRules}
use Rattle.image_changes.proofs.MountLemmas.{least_breaks}
use Rattle.image_changes.proofs.mounted.mount_sound.Goals as goal

pub mount_obeying-requires-clause-obeys : goal.mount_obeying-requires-clause-obeys
mount_obeying-requires-clause-obeys g c =
    let kept = c.args.frozen in
    subst (λ (least : Option ℕ). MatchOption least (ObeysRules kept.geometry (frozen_view kept)) (IsLeastBroken kept.geometry (frozen_view kept))) c.in-Ok-None.field-0-is c.in-Ok-None.ensures.obeys

pub returns-in-Ok-Some-clause-refused : goal.returns-in-Ok-Some-clause-refused
returns-in-Ok-Some-clause-refused g c =
    let kept = c.args.frozen in
    inr (
      refl,
      λ h. least_breaks kept (g.D.Device.image c.args.device) _ (c.requires.loaded h)
          (subst (λ (least : Option ℕ). MatchOption least (ObeysRules kept.geometry (frozen_view kept)) (IsLeastBroken kept.geometry (frozen_view kept))) c.in-Ok-Some.field-0-is c.in-Ok-Some.ensures.obeys),
    )

pub returns-in-Ok-None-clause-refused : goal.returns-in-Ok-None-clause-refused
returns-in-Ok-None-clause-refused g c = IfErr-weaker c.mount_obeying.result _ _ (λ r memory. inl memory) c.mount_obeying.ensures.error
