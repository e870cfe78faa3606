use Rattle.std.proofs.Common.{inl, inr}
use Rattle.std.proofs.lemmas.Result.{IfErr-weaker, IfOk-weaker, err_from_is_err_and}
use Rattle.tool_answers.proofs.RefusalLemmas.{refused_there}
use Rattle.tool_answers.proofs.looking.ls.Goals as goal

pub returns-clause-listed : goal.returns-clause-listed
returns-clause-listed g c = λ plain flat.
    IfOk-weaker c.names_text.result _ _ (λ text told honest. told (g.D.Device.image c.args.device.now) (c.in_ok-frozen.ensures.ok honest)) (c.names_text.ensures.listed plain)

pub returns-in_err-frozen-clause-refused : goal.returns-in_err-frozen-clause-refused
returns-in_err-frozen-clause-refused g c =
    let p = err_from_is_err_and c.from_residual.result c.from_residual.ensures.1 in
    rw (p.1, p.2) (inr (inl c.in_err-frozen.ensures.refused))

pub returns-then-style-clause-refused : goal.returns-then-style-clause-refused
returns-then-style-clause-refused g c =
    IfErr-weaker c.listings_text.result _ _ (λ r told. elim told [
      | inl damaged ↦ inl (c.if-style.true, damaged)
      | inr replies ↦ inr (inr (λ honest. refused_there replies (c.in_ok-frozen.ensures.ok honest)))
    ]) c.listings_text.ensures.refused

pub returns-clause-refused : goal.returns-clause-refused
returns-clause-refused g c =
    IfErr-weaker c.names_text.result _ _ (λ r replies. inr (inr (λ honest. refused_there replies (c.in_ok-frozen.ensures.ok honest)))) c.names_text.ensures.refused
