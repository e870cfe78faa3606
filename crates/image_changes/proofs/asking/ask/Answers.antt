use Rattle.std.proofs.Common.{Err, ap}
use Rattle.std.proofs.lemmas.Result.{err_from_is_err_and}
use Rattle.layout.specs.declared.refusal.Refusal.TheVariants.{Device}
use Rattle.snapshot.proofs.Blaming.{same_refusal}
use Rattle.image_changes.proofs.asking.ask.Goals as goal

pub returns-in_err-answer_to-clause-refused : goal.returns-in_err-answer_to-clause-refused
returns-in_err-answer_to-clause-refused g c =
    let p = err_from_is_err_and c.from_residual.result c.from_residual.ensures.1 in
    rw (p.1, p.2) c.in_err-answer_to.ensures.replied

pub returns-in_err-answer_to-clause-cause : goal.returns-in_err-answer_to-clause-cause
returns-in_err-answer_to-clause-cause g c =
    let p = err_from_is_err_and c.from_residual.result c.from_residual.ensures.1 in
    rw (p.1, p.2) (λ e. c.in_err-answer_to.ensures.cause (ap Err (same_refusal _ Device e)))
