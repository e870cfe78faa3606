use Rattle.std.proofs.Common.{refl, rules}
use Rattle.std.proofs.lemmas.Result.{err_from_is_err_and}
use Rattle.shared.specs.Limits.{Within}
use Rattle.shared.proofs.shared.open_books.Goals as goal

pub returns-in_err-seats-clause-bad_index : goal.returns-in_err-seats-clause-bad_index
returns-in_err-seats-clause-bad_index g c =
    let p = err_from_is_err_and c.from_residual.result c.from_residual.ensures.1 in
    let within : Within c.args.limit c.args.seats = c.are_within.ensures.0 (search rules) in
    rw (p.1, p.2) (λ e. absurd cc, λ outside. absurd (outside within))

pub returns-in_err-seats-clause-error : goal.returns-in_err-seats-clause-error
returns-in_err-seats-clause-error g c =
    let p = err_from_is_err_and c.from_residual.result c.from_residual.ensures.1 in
    rw (p.1, p.2) (λ within. refl)
