use Rattle.std.proofs.Common.{sym, ◌∙◌}
use Rattle.std.proofs.lemmas.Result.{err_from_is_err_and}
use Rattle.tool_answers.proofs.WordLemmas.{leads_elsewhere, leads_nowhere, leads_there, no_parts}
use Rattle.tool_answers.proofs.words.directory_at.Goals as goal

pub returns-in_err-path : goal.returns-in_err-path
returns-in_err-path c =
    let p = err_from_is_err_and c.from_residual.result c.from_residual.ensures.1 in
    rw (p.1, p.2, c.in_err-path.ensures.1) (no_parts c.args.frozen.now c.args.path.now c.in_err-path.ensures.0)

pub returns-in_err-number : goal.returns-in_err-number
returns-in_err-number c =
    let p = err_from_is_err_and c.from_residual-in_err-number.result c.from_residual-in_err-number.ensures.1 in
    rw (p.1, p.2) (leads_nowhere c.args.frozen.now c.args.path.now c.in_ok-path.path c.in_ok-path.ensures c.target.result c.target.ensures _ c.in_err-number.was)

pub returns-then-not-is_directory_at : goal.returns-then-not-is_directory_at
returns-then-not-is_directory_at c =
    leads_elsewhere c.args.frozen.now c.args.path.now c.in_ok-path.path c.in_ok-path.ensures c.target.result c.target.ensures c.in_ok-number.number c.in_ok-number.was
    (sym c.is_directory_at.ensures ∙ c.if-not-is_directory_at.true)

pub returns : goal.returns
returns c =
    leads_there c.args.frozen.now c.args.path.now c.in_ok-path.path c.in_ok-path.ensures c.target.result c.target.ensures c.in_ok-number.number c.in_ok-number.was
    (sym c.is_directory_at.ensures ∙ c.if-not-is_directory_at.false)
