use Rattle.std.proofs.Common.{sym, ◌∙◌}
use Rattle.snapshot.proofs.Installs.{damaged_not_soft, soft_unless}
use Rattle.snapshot.proofs.checking.is_mendable.Goals as goal

pub returns-in-Damaged : goal.returns-in-Damaged
returns-in-Damaged c =
    sym (damaged_not_soft c.args.checked.now.findings (sym c.tells_its_image.ensures.verdict ∙ sym c.verdict.ensures.verdict ∙ c.in-Damaged.is))

pub returns-in_default : goal.returns-in_default
returns-in_default c =
    sym (soft_unless c.args.checked.now.findings (λ d. c.in_default.not-Damaged (c.verdict.ensures.verdict ∙ c.tells_its_image.ensures.verdict ∙ d)))
