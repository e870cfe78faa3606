use Rattle.std.proofs.Common.{Err, refl}
use Rattle.std.proofs.lemmas.Result.{err_from_is_err_and}
use Rattle.layout.specs.declared.refusal.Refusal.TheVariants.{BadName}
use Rattle.reading.proofs.CauseLemmas.{not_device, other_refusal, why_nowhere}
use Rattle.reading.proofs.looking.find.Goals as goal

pub returns-in_err-path-clause-device : goal.returns-in_err-path-clause-device
returns-in_err-path-clause-device c =
    let p = err_from_is_err_and c.from_residual.result c.from_residual.ensures.1 in
    rw (p.1, p.2, c.in_err-path.ensures.1) (other_refusal (Err BadName) refl)

pub returns-clause-refused : goal.returns-clause-refused
returns-clause-refused c = why_nowhere c.args.frozen.now c.args.path.now c.in_ok-path.path c.in_ok-path.ensures c.target.result c.target.ensures

pub returns-clause-device : goal.returns-clause-device
returns-clause-device c = not_device c.args.frozen.now c.in_ok-path.path c.target.result c.target.ensures
