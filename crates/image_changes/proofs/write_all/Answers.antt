use Rattle.std.proofs.Common.{Err, ap}
use Rattle.std.proofs.lemmas.Result.{err_from_is_err_and}
use Rattle.layout.specs.declared.refusal.Refusal.TheVariants.{Device}
use Rattle.snapshot.proofs.Blaming.{same_refusal}
use Rattle.snapshot.proofs.Refusals.{may_sync, refused_too}
use Rattle.snapshot.specs.Alive.{state_of}
use Rattle.machine.specs.Command.{Sync}
use Rattle.image_changes.proofs.write_all.Goals as goal

pub returns-in_err-apply-clause-error : goal.returns-in_err-apply-clause-error
returns-in_err-apply-clause-error g c =
    let p = err_from_is_err_and c.from_residual.result c.from_residual.ensures.1 in
    rw (p.1, p.2) (λ honest.
    let old = c.args.volume.now in
    let new = c.apply.new.self in
    let has = c.live.ensures.balance (c.apply.ensures.honest honest) in
    refused_too (g.D.Device.held old.device) (g.D.Device.image old.device) old (g.D.Device.held new.device) (g.D.Device.image new.device) new has.beside has.is Sync
    (may_sync old.kept.geometry (state_of (g.D.Device.image old.device) old has.beside)) tt _ (c.in_err-apply.ensures.applied honest))

pub returns-clause-written : goal.returns-clause-written
returns-clause-written g c = λ honest. record { answer = c.in_ok-apply.field-0; applies = c.in_ok-apply.ensures.applied honest }

pub returns-in_err-apply-clause-went : goal.returns-in_err-apply-clause-went
returns-in_err-apply-clause-went g c =
    let p = err_from_is_err_and c.from_residual.result c.from_residual.ensures.1 in
    rw (p.1, p.2) c.in_err-apply.ensures.applied

pub returns-in_err-apply-clause-cause : goal.returns-in_err-apply-clause-cause
returns-in_err-apply-clause-cause g c =
    let p = err_from_is_err_and c.from_residual.result c.from_residual.ensures.1 in
    rw (p.1, p.2) (λ e. c.in_err-apply.ensures.cause (ap Err (same_refusal _ Device e)))
