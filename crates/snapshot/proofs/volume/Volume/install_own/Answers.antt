use Rattle.std.proofs.Common.{inl, inr, refl, subst}
use Rattle.std.proofs.lemmas.Result.{err_from_is_err_and, IfErr-weaker}
use Rattle.machine.specs.Command.{Install}
use Rattle.softdep.specs.Queued.{pending_of}
use Rattle.live_states.proofs.Standing.{has}
use Rattle.live.specs.Alive.{disk_of}
use Rattle.snapshot.specs.Asked.{check_of}
use Rattle.snapshot.proofs.CallLemmas.{same_err}
use Rattle.snapshot.proofs.Installs.{IsWhyNot}
use Rattle.snapshot.proofs.volume.Volume.install_own.Goals as goal

pub returns-in_err-may_install_own-clause-refused : goal.returns-in_err-may_install_own-clause-refused
returns-in_err-may_install_own-clause-refused g c =
    let p = err_from_is_err_and c.from_residual.result c.from_residual.ensures.1 in
    let old = c.args.self.now in
    let checked = c.args.checked.now in
    let r = c.in_err-may_install_own.field-0.0 in
    let why : IsWhyNot checked r old = subst (IsWhyNot checked r) c.live.ensures.live c.in_err-may_install_own.ensures.refused in
    rw (p.1, p.2)
    (λ h. same_err g.D.Device.honest g.D.Device.held g.D.Device.image old old (Install (check_of old.kept.geometry checked)) r refl
    (λ beside is. inr (inr (why _ (has (disk_of (g.D.Device.image old.device) old) (pending_of old.queue) old.holdings beside is.belongs)))))

pub returns-in_err-may_install_own-clause-cause : goal.returns-in_err-may_install_own-clause-cause
returns-in_err-may_install_own-clause-cause g c =
    let p = err_from_is_err_and c.from_residual.result c.from_residual.ensures.1 in
    let why = subst (IsWhyNot c.args.checked.now c.in_err-may_install_own.field-0.0) c.live.ensures.live c.in_err-may_install_own.ensures.refused in
    rw (p.1, p.2) (inr (λ old shows has. why old has))

pub returns-clause-cause : goal.returns-clause-cause
returns-clause-cause g c = IfErr-weaker c.take_repairs.result _ _ (λ r memory. inl memory) c.take_repairs.ensures.error

pub returns-in_err-may_install_own-clause-error : goal.returns-in_err-may_install_own-clause-error
returns-in_err-may_install_own-clause-error g c =
    let p = err_from_is_err_and c.from_residual.result c.from_residual.ensures.1 in
    rw (p.1, p.2) (elim c.in_err-may_install_own.ensures.error [ inl planned ↦ inl planned | inr damaged ↦ inr (inl damaged) ])

pub returns-clause-error : goal.returns-clause-error
returns-clause-error g c = IfErr-weaker c.take_repairs.result _ _ (λ r memory. inr (inr memory)) c.take_repairs.ensures.error
