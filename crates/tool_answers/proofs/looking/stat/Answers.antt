use Rattle.std.proofs.Common.{inl, inr}
use Rattle.std.proofs.lemmas.Result.{err_from_is_err_and}
use Rattle.tool_answers.proofs.RefusalLemmas.{refused_there}
use Rattle.tool_answers.proofs.looking.stat.Goals as goal

pub returns-in_err-frozen-clause-refused : goal.returns-in_err-frozen-clause-refused
returns-in_err-frozen-clause-refused g c =
    let p = err_from_is_err_and c.from_residual.result c.from_residual.ensures.1 in
    rw (p.1, p.2) (inl c.in_err-frozen.ensures.refused)

pub returns-in_err-found-clause-refused : goal.returns-in_err-found-clause-refused
returns-in_err-found-clause-refused g c =
    let p = err_from_is_err_and c.from_residual-in_err-found.result c.from_residual-in_err-found.ensures.1 in
    rw (p.1, p.2) (inr (λ honest. refused_there c.in_err-found.ensures.refused (c.in_ok-frozen.ensures.ok honest)))
