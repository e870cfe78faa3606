use Rattle.std.proofs.Common.{◌≡◌, ◌∙◌, ◌⊎◌, sym, subst}
use Rattle.findings.specs.declared.verdicts.Verdict.{Verdict}
use Rattle.findings.specs.declared.verdicts.Verdict.TheVariants.{Clean, Damaged}
use Rattle.std.proofs.lemmas.Result.{IfOk-weaker}
use Rattle.image_lines.proofs.RepairLemmas.{other_text, soft_text}
use Rattle.image_lines.proofs.repair.told_of_repairs.Goals as goal

pub returns-in-Soft-clause-text : goal.returns-in-Soft-clause-text
returns-in-Soft-clause-text c =
    let x = c.args.checked.now in
    IfOk-weaker c.told_with_repairs.result _ _ (λ answer is. is ∙ sym (soft_text x.verdict x (sym c.verdict.ensures.verdict ∙ c.in-Soft.is))) c.told_with_repairs.ensures.text

pub returns-in-Clean : goal.returns-in-Clean
returns-in-Clean c =
    let x = c.args.checked.now in
    let other = subst (λ (v : Verdict). (v ≡ Clean) ⊎ (v ≡ Damaged)) c.verdict.ensures.verdict c.in-Clean.is in
    record {
      text = IfOk-weaker c.told.result _ _ (λ answer is. is ∙ sym (other_text x.verdict x other)) c.told.ensures.text;
      status = c.told.ensures.status;
      error = c.told.ensures.error;
    }
