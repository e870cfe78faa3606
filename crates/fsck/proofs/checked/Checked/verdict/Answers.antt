use Rattle.std.proofs.Common.{◌≡◌, ◌↔◌, subst}
use Rattle.findings.specs.declared.verdicts.Verdict.TheVariants.{Damaged}
use Rattle.frozen.specs.Kept.{frozen_view}
use Rattle.model.specs.Rules.{ObeysRules}
use Rattle.fsck.specs.Checked.{CheckedImage}
use Rattle.fsck.proofs.VerdictLemmas.{verdict_damaged}
use Rattle.fsck.proofs.checked.Checked.verdict.Goals as goal

pub returns-clause-damaged : goal.returns-clause-damaged
returns-clause-damaged c =
    subst (λ (checked : CheckedImage). (c.self.inside.verdict ≡ Damaged) ↔ (ObeysRules checked.frozen.geometry (frozen_view checked.frozen) → ⊥)) c.self.view_is
    (verdict_damaged _ c.self.invariant)
