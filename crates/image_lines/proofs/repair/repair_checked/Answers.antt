use Rattle.std.proofs.Common.{◌≡◌, ◌⊎◌, subst}
use Rattle.findings.specs.declared.verdicts.Verdict.{Verdict}
use Rattle.findings.specs.declared.verdicts.Verdict.TheVariants.{Clean, Damaged}
use Rattle.image_lines.proofs.repair.repair_checked.Goals as goal

pub leave_device-requires-clause-other : goal.leave_device-requires-clause-other
leave_device-requires-clause-other g c = subst (λ (v : Verdict). (v ≡ Clean) ⊎ (v ≡ Damaged)) c.verdict.ensures.verdict c.in-Clean.is
