use Rattle.std.proofs.Common.{refl}
use Rattle.std.proofs.lemmas.Result.{err_from_is_err_and}
use Rattle.live.proofs.live.beside.Goals as goal

pub returns-in_err-holdings-clause-error : goal.returns-in_err-holdings-clause-error
returns-in_err-holdings-clause-error c =
    let p = err_from_is_err_and c.from_residual-in_err-holdings.result c.from_residual-in_err-holdings.ensures.1 in
    rw (p.1, p.2) refl
