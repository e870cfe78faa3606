use Rattle.std.proofs.Common.{inl, inr, refl, ◌≡◌, ◌⊎◌, subst}
use Rattle.std.proofs.lemmas.Result.{IfErr-weaker}
use Rattle.findings.specs.declared.verdicts.Verdict.{Verdict}
use Rattle.findings.specs.declared.verdicts.Verdict.TheVariants.{Clean, Damaged, Soft}
use Rattle.image_changes.proofs.MountLemmas.{image_breaks}
use Rattle.image_lines.proofs.RepairLemmas.{not_damaged}
use Rattle.image_lines.proofs.mounting.mount_unless_damaged.Goals as goal

pub mount_checked-requires-clause-sound : goal.mount_checked-requires-clause-sound
mount_checked-requires-clause-sound g c = not_damaged c.args.checked.now.verdict (subst (λ (v : Verdict). (v ≡ Clean) ⊎ (v ≡ Soft)) c.verdict.ensures.verdict c.in-Clean.is)

pub returns-in-Damaged-clause-refused : goal.returns-in-Damaged-clause-refused
returns-in-Damaged-clause-refused g c =
    inr (refl, λ h. image_breaks c.args.checked.now.frozen (g.D.Device.image c.args.device) (c.requires.loaded h) (c.verdict.ensures.damaged.0 c.in-Damaged.is))

pub returns-in-Clean-clause-refused : goal.returns-in-Clean-clause-refused
returns-in-Clean-clause-refused g c = IfErr-weaker c.mount_checked.result _ _ (λ refused memory. inl memory) c.mount_checked.ensures.error
