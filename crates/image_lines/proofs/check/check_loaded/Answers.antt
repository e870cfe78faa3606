use Rattle.std.proofs.Common.{◌∙◌, subst, sym}
use Rattle.std.specs.Arc.{arc_value}
use Rattle.std.proofs.lemmas.Result.{IfOk-weaker}
use Rattle.frozen.specs.Kept.{Kept, IsKeptOf}
use Rattle.image_lines.proofs.CheckLemmas.{image_checked}
use Rattle.image_lines.proofs.check.check_loaded.Goals as goal

pub returns-clause-checked : goal.returns-clause-checked
returns-clause-checked g c =
    IfOk-weaker c.check.result _ _ (λ checked is image of.
    let kept : Kept = arc_value c.in_ok-frozen.frozen in
    image_checked kept image checked (subst (λ (k : Kept). IsKeptOf k image) (sym c.in_ok-frozen.ensures.ok) of) is)
    c.check.ensures.checked

pub returns-clause-frozen : goal.returns-clause-frozen
returns-clause-frozen g c = IfOk-weaker c.check.result _ _ (λ checked same. same ∙ c.in_ok-frozen.ensures.ok) c.check.ensures.frozen
