use Rattle.std.proofs.Common.{◌∙◌, ap, inr, subst, sym}
use Rattle.std.proofs.lemmas.Result.{IfErr-weaker, IfOk-weaker}
use Rattle.frozen.specs.Kept.{Kept, IsKeptOf}
use Rattle.model.specs.Layout.{block_count}
use Rattle.image_lines.proofs.check.check_by.Goals as goal

pub returns-clause-checked : goal.returns-clause-checked
returns-clause-checked g c =
    IfOk-weaker c.check_loaded.result _ _ (λ checked of honest others. of (g.D.Device.image c.args.device.now) (c.in_ok-frozen.ensures.ok honest others)) c.check_loaded.ensures.checked

pub returns-clause-loaded : goal.returns-clause-loaded
returns-clause-loaded g c =
    IfOk-weaker c.check_loaded.result _ _ (λ checked same honest others. subst (λ (k : Kept). IsKeptOf k (g.D.Device.image c.args.device.now)) (sym same) (c.in_ok-frozen.ensures.ok honest others))
    c.check_loaded.ensures.frozen

pub returns-clause-count : goal.returns-clause-count
returns-clause-count g c =
    IfOk-weaker c.check_loaded.result _ _ (λ checked same. c.in_ok-frozen.ensures.count ∙ ap (λ (k : Kept). block_count k.geometry) (sym same)) c.check_loaded.ensures.frozen

pub returns-clause-lost : goal.returns-clause-lost
returns-clause-lost g c = IfErr-weaker c.check_loaded.result _ _ (λ refusal none. inr c.in_ok-frozen.ensures.others) c.check_loaded.ensures.error
