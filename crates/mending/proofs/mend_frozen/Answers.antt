use Rattle.std.proofs.Common.{◌∙◌, [], Err, Ok, ap, length, refl, subst, sym}
use Rattle.std.proofs.lemmas.Result.{err_from_is_err_and}
use Rattle.layout.specs.declared.refusal.Refusal.TheVariants.{Device}
use Rattle.machine.specs.Command.{Done, Install, Release, Sync}
use Rattle.machine.specs.Standing.{ended}
use Rattle.machine.proofs.Snapshots.{at_here}
use Rattle.live_states.specs.Holdings.{Beside}
use Rattle.snapshot.specs.Alive.{state_of}
use Rattle.snapshot.specs.Asked.{check_of}
use Rattle.snapshot.specs.Between.{asks_install}
use Rattle.snapshot.proofs.Blaming.{never_device, same_refusal}
use Rattle.mending.specs.Repairs.{IsPlanned, Mends, one_beside}
use Rattle.mending.proofs.Going.{by_release, by_reply, by_sync, failed_at_once, failed_later, not_refused, went_on}
use Rattle.mending.proofs.Joining.{joins_of, then_mends}
use Rattle.snapshot.proofs.Refusals.{may_install, may_release, may_sync, refused_so, refused_too}
use Rattle.mending.proofs.Planned.{installed}
use Rattle.mending.proofs.mend_frozen.Goals as goal

pub returns-in_err-install_own-clause-error : goal.returns-in_err-install_own-clause-error
returns-in_err-install_own-clause-error g c =
    let p = err_from_is_err_and c.from_residual.result c.from_residual.ensures.1 in
    rw (p.1, p.2) (λ honest may.
    let held = g.D.Device.held in
    let image = g.D.Device.image in
    let old = c.args.volume.now in
    let new = c.install_own.new.self in
    let s = c.args.number in
    let b : Beside = one_beside s may.view in
    let check = check_of old.kept.geometry c.args.checked.now in
    refused_so (held old.device) (image old.device) old (held new.device) (image new.device) new b may.is (Install check)
    (may_install old.kept.geometry (state_of (image old.device) old b) check may.view (at_here s may.view []) may.none may.soft) (may.view, at_here s may.view [], may.same) _ (c.in_err-install_own.ensures.refused honest))

pub returns-in_err-repair_all-clause-error : goal.returns-in_err-repair_all-clause-error
returns-in_err-repair_all-clause-error g c =
    let p = err_from_is_err_and c.from_residual-in_err-repair_all.result c.from_residual-in_err-repair_all.ensures.1 in
    rw (p.1, p.2) (λ honest may.
    let image = g.D.Device.image in
    let old = c.args.volume.now in
    let mid = c.install_own.new.self in
    let s = c.args.number in
    let b : Beside = one_beside s may.view in
    let two = c.in_ok-install_own.ensures.installed (subst g.D.Device.honest c.repair_all.ensures.device honest) b may.is in
    c.in_err-repair_all.ensures.error honest (record {
      beside = b;
      is = two.is;
      is_planned = subst (IsPlanned (state_of (image mid.device) mid b) 0) (ap length (sym may.repairs ∙ sym c.repairs.ensures.repairs))
          (installed old.kept.geometry (state_of (image old.device) old b) (state_of (image mid.device) mid b) _ may.view c.args.checked.now.findings (at_here s may.view []) may.found c.findings_are_unique.ensures two.run);
    }))

pub returns-in_err-release-clause-error : goal.returns-in_err-release-clause-error
returns-in_err-release-clause-error g c =
    let p = err_from_is_err_and c.from_residual-in_err-release.result c.from_residual-in_err-release.ensures.1 in
    rw (p.1, p.2) (λ honest may.
    let held = g.D.Device.held in
    let image = g.D.Device.image in
    let old = c.repair_all.new.volume in
    let new = c.release.new.self in
    let s = c.args.number in
    let b : Beside = one_beside s may.view in
    let h3 = c.release.ensures.honest honest in
    let two = c.in_ok-install_own.ensures.installed (subst g.D.Device.honest c.repair_all.ensures.device h3) b may.is in
    let three = c.in_ok-repair_all.ensures.repaired h3 b two.is in
    refused_so (held old.device) (image old.device) old (held new.device) (image new.device) new b three.is (Release s)
    (may_release old.kept.geometry (state_of (image old.device) old b) s may.view (at_here s may.view [])) tt _ (c.in_err-release.ensures.refused honest))

pub returns-in_err-apply-clause-error : goal.returns-in_err-apply-clause-error
returns-in_err-apply-clause-error g c =
    let p = err_from_is_err_and c.from_residual-in_err-apply.result c.from_residual-in_err-apply.ensures.1 in
    rw (p.1, p.2) (λ honest may.
    let held = g.D.Device.held in
    let image = g.D.Device.image in
    let old = c.release.new.self in
    let new = c.apply.new.self in
    let s = c.args.number in
    let b : Beside = one_beside s may.view in
    let h4 = c.apply.ensures.honest honest in
    let h3 = c.release.ensures.honest h4 in
    let two = c.in_ok-install_own.ensures.installed (subst g.D.Device.honest c.repair_all.ensures.device h3) b may.is in
    let three = c.in_ok-repair_all.ensures.repaired h3 b two.is in
    let four = c.in_ok-release.ensures.released h4 b three.is in
    let left : Beside = record { snapshots = ended b.snapshots s } in
    refused_too (held old.device) (image old.device) old (held new.device) (image new.device) new left four.is Sync
    (may_sync old.kept.geometry (state_of (image old.device) old left)) tt _ (c.in_err-apply.ensures.applied honest))

pub returns-in_err-install_own-clause-went : goal.returns-in_err-install_own-clause-went
returns-in_err-install_own-clause-went g c = λ h.
    by_reply g.D.Device.held g.D.Device.image c.args.volume.now c.install_own.new.self (asks_install c.args.volume.now c.args.checked.now) _ refl (c.in_err-install_own.ensures.refused h)

pub returns-in_err-install_own-clause-cause : goal.returns-in_err-install_own-clause-cause
returns-in_err-install_own-clause-cause g c =
    let p = err_from_is_err_and c.from_residual.result c.from_residual.ensures.1 in
    let old = c.args.volume.now in
    rw (p.1, p.2) (λ e. absurd (never_device old.kept old.holdings (asks_install old c.args.checked.now) _ c.in_err-install_own.ensures.cause (same_refusal _ Device e)))

pub returns-in_err-repair_all-clause-went : goal.returns-in_err-repair_all-clause-went
returns-in_err-repair_all-clause-went g c = λ h.
    let held = g.D.Device.held in
    let image = g.D.Device.image in
    let honest = g.D.Device.honest in
    let v1 = c.args.volume.now in
    let v2 = c.install_own.new.self in
    let v3 = c.repair_all.new.volume in
    went_on held image v1 v2 v3
    (by_reply held image v1 v2 (asks_install v1 c.args.checked.now) (Ok Done) refl (c.in_ok-install_own.ensures.installed (subst honest c.repair_all.ensures.device h)))
    (c.repair_all.ensures.went h)

pub returns-in_err-repair_all-clause-cause : goal.returns-in_err-repair_all-clause-cause
returns-in_err-repair_all-clause-cause g c =
    let p = err_from_is_err_and c.from_residual-in_err-repair_all.result c.from_residual-in_err-repair_all.ensures.1 in
    rw (p.1, p.2) (λ e. absurd (c.in_err-repair_all.ensures.never (ap Err (same_refusal _ Device e))))

pub returns-in_err-release-clause-went : goal.returns-in_err-release-clause-went
returns-in_err-release-clause-went g c = λ h4.
    let held = g.D.Device.held in
    let image = g.D.Device.image in
    let honest = g.D.Device.honest in
    let v1 = c.args.volume.now in
    let v2 = c.install_own.new.self in
    let v3 = c.repair_all.new.volume in
    let v4 = c.release.new.self in
    let h3 = c.release.ensures.honest h4 in
    went_on held image v1 v3 v4
    (went_on held image v1 v2 v3 (by_reply held image v1 v2 (asks_install v1 c.args.checked.now) (Ok Done) refl (c.in_ok-install_own.ensures.installed (subst honest c.repair_all.ensures.device h3))) (c.repair_all.ensures.went h3))
    (by_reply held image v3 v4 (Release c.args.number) _ refl (c.in_err-release.ensures.refused h4))

pub returns-in_err-release-clause-cause : goal.returns-in_err-release-clause-cause
returns-in_err-release-clause-cause g c =
    let p = err_from_is_err_and c.from_residual-in_err-release.result c.from_residual-in_err-release.ensures.1 in
    let held = g.D.Device.held in
    let image = g.D.Device.image in
    let honest = g.D.Device.honest in
    let v1 = c.args.volume.now in
    let v2 = c.install_own.new.self in
    let v3 = c.repair_all.new.volume in
    let v4 = c.release.new.self in
    rw (p.1, p.2) (λ e.
    failed_later honest held image g.D.Device.failures v1 v3 v4 (λ h3. subst honest c.install_own.ensures.device (subst honest c.repair_all.ensures.device h3))
    (λ h3. went_on held image v1 v2 v3 (by_reply held image v1 v2 (asks_install v1 c.args.checked.now) (Ok Done) refl (c.in_ok-install_own.ensures.installed (subst honest c.repair_all.ensures.device h3))) (c.repair_all.ensures.went h3))
    (failed_at_once honest held image g.D.Device.failures v3 v4 (c.in_err-release.ensures.cause (ap Err (same_refusal _ Device e)))))

pub returns-in_err-apply-clause-went : goal.returns-in_err-apply-clause-went
returns-in_err-apply-clause-went g c = λ h5.
    let held = g.D.Device.held in
    let image = g.D.Device.image in
    let honest = g.D.Device.honest in
    let v1 = c.args.volume.now in
    let v2 = c.install_own.new.self in
    let v3 = c.repair_all.new.volume in
    let v4 = c.release.new.self in
    let v5 = c.apply.new.self in
    let h4 = c.apply.ensures.honest h5 in
    let h3 = c.release.ensures.honest h4 in
    went_on held image v1 v4 v5
    (went_on held image v1 v3 v4
    (went_on held image v1 v2 v3 (by_reply held image v1 v2 (asks_install v1 c.args.checked.now) (Ok Done) refl (c.in_ok-install_own.ensures.installed (subst honest c.repair_all.ensures.device h3))) (c.repair_all.ensures.went h3))
    (by_release held image v3 v4 c.args.number (c.in_ok-release.ensures.released h4)))
    (by_sync held image v4 v5 (Err c.in_err-apply.field-0.0) (c.in_err-apply.ensures.applied h5))

pub returns-in_err-apply-clause-cause : goal.returns-in_err-apply-clause-cause
returns-in_err-apply-clause-cause g c =
    let p = err_from_is_err_and c.from_residual-in_err-apply.result c.from_residual-in_err-apply.ensures.1 in
    let held = g.D.Device.held in
    let image = g.D.Device.image in
    let honest = g.D.Device.honest in
    let v1 = c.args.volume.now in
    let v2 = c.install_own.new.self in
    let v3 = c.repair_all.new.volume in
    let v4 = c.release.new.self in
    let v5 = c.apply.new.self in
    rw (p.1, p.2) (λ e.
    failed_later honest held image g.D.Device.failures v1 v4 v5
    (λ h4. subst honest c.install_own.ensures.device (subst honest c.repair_all.ensures.device (c.release.ensures.honest h4)))
    (λ h4. went_on held image v1 v3 v4
    (went_on held image v1 v2 v3 (by_reply held image v1 v2 (asks_install v1 c.args.checked.now) (Ok Done) refl (c.in_ok-install_own.ensures.installed (subst honest c.repair_all.ensures.device (c.release.ensures.honest h4)))) (c.repair_all.ensures.went (c.release.ensures.honest h4)))
    (by_release held image v3 v4 c.args.number (c.in_ok-release.ensures.released h4)))
    (failed_at_once honest held image g.D.Device.failures v4 v5 (c.in_err-apply.ensures.cause (ap Err (same_refusal _ Device e)))))

pub returns : goal.returns
returns g c =
    let held = g.D.Device.held in
    let image = g.D.Device.image in
    let honest = g.D.Device.honest in
    let v1 = c.args.volume.now in
    let v2 = c.install_own.new.self in
    let v3 = c.repair_all.new.volume in
    let v4 = c.release.new.self in
    let v5 = c.apply.new.self in
    let checked = c.args.checked.now in
    record {
      mends = λ h5 beside is.
          let h4 = c.apply.ensures.honest h5 in
          let h3 = c.release.ensures.honest h4 in
          let h2 = subst honest c.repair_all.ensures.device h3 in
          subst (λ n. Mends beside (held v1.device) (image v1.device) v1 c.args.number (check_of v1.kept.geometry checked) n (held v5.device) (image v5.device) v5) (ap length c.repairs.ensures.repairs)
          (then_mends (joins_of c.calls_join.ensures) (held v1.device) (held v2.device) (held v3.device) (held v4.device) (held v5.device)
          (image v1.device) (image v2.device) (image v3.device) (image v4.device) (image v5.device) v1 v2 v3 v4 v5 beside c.args.number (check_of v1.kept.geometry checked) _ c.in_ok-apply.field-0 is
          (c.in_ok-install_own.ensures.installed h2) (c.in_ok-repair_all.ensures.repaired h3) (c.in_ok-release.ensures.released h4) (c.in_ok-apply.ensures.applied h5));
      went = λ h5.
          let h4 = c.apply.ensures.honest h5 in
          let h3 = c.release.ensures.honest h4 in
          went_on held image v1 v4 v5
          (went_on held image v1 v3 v4
          (went_on held image v1 v2 v3 (by_reply held image v1 v2 (asks_install v1 c.args.checked.now) (Ok Done) refl (c.in_ok-install_own.ensures.installed (subst honest c.repair_all.ensures.device h3))) (c.repair_all.ensures.went h3))
          (by_release held image v3 v4 c.args.number (c.in_ok-release.ensures.released h4)))
          (by_sync held image v4 v5 (Ok c.in_ok-apply.field-0) (c.in_ok-apply.ensures.applied h5));
      error = tt;
      cause = λ e. absurd (not_refused _ Device e);
      honest = λ h5. subst honest c.install_own.ensures.device (subst honest c.repair_all.ensures.device (c.release.ensures.honest (c.apply.ensures.honest h5)));
    }
