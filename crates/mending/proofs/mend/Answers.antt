use Rattle.std.proofs.Common.{◌≡◌, ◌∙◌, Err, Some, ap, inl, refl, subst, sym}
use Rattle.std.specs.Arc.{arc_value}
use Rattle.std.proofs.lemmas.Result.{err_from_is_err_and}
use Rattle.fsck.specs.Checked.{CheckedImage, IsChecked}
use Rattle.machine.specs.Snapshot.{settled}
use Rattle.machine.specs.Standing.{latest_at}
use Rattle.live_states.specs.Holdings.{nothing_beside}
use Rattle.snapshot.specs.Alive.{disk_of, state_of}
use Rattle.snapshot.specs.Asked.{check_of}
use Rattle.mending.specs.Repairs.{MayMend, MendsFrozen}
use Rattle.mending.proofs.MayMend.{checked_latest, may_mend, of_snapshot, some_latest}
use Rattle.mending.proofs.Ended.{Ended, checked_there, ends}
use Rattle.layout.specs.declared.refusal.Refusal.TheVariants.{Device}
use Rattle.snapshot.proofs.Blaming.{same_refusal}
use Rattle.snapshot.proofs.Refusals.{may_freeze, refused_so}
use Rattle.machine.specs.Command.{Freeze}
use Rattle.mending.proofs.Going.{by_freeze, by_reply, failed_at_once, failed_later, not_refused, went_on}
use Rattle.mending.proofs.Joining.{joins_of}
use Rattle.mending.proofs.Seen.{alone}
use Rattle.mending.proofs.mend.Goals as goal

pub returns-in_err-number-clause-error : goal.returns-in_err-number-clause-error
returns-in_err-number-clause-error g c =
    let p = err_from_is_err_and c.from_residual.result c.from_residual.ensures.1 in
    rw (p.1, p.2) (λ honest.
    let held = g.D.Device.held in
    let image = g.D.Device.image in
    let old = c.args.volume.now in
    let new = c.freeze.new.self in
    let beside = c.live.ensures.balance (c.freeze.ensures.honest honest) in
    let is = alone (image old.device) old beside.beside c.requires.idle.snapshots beside.is in
    refused_so (held old.device) (image old.device) old (held new.device) (image new.device) new nothing_beside is Freeze
    (may_freeze old.kept.geometry (state_of (image old.device) old nothing_beside) refl) tt _ (c.in_err-number.ensures.refused honest))

pub returns-in_err-check_snapshot-clause-error : goal.returns-in_err-check_snapshot-clause-error
returns-in_err-check_snapshot-clause-error g c =
    let p = err_from_is_err_and c.from_residual-in_err-check_snapshot.result c.from_residual-in_err-check_snapshot.ensures.1 in
    rw (p.1, p.2) (λ honest.
    let image = g.D.Device.image in
    let old = c.args.volume.now in
    let beside = c.live.ensures.balance (c.freeze.ensures.honest honest) in
    let is = alone (image old.device) old beside.beside c.requires.idle.snapshots beside.is in
    let new = c.freeze.new.self in
    inl (c.in_err-check_snapshot.ensures.error (some_latest (image new.device) new (settled old.kept.geometry (state_of (image old.device) old nothing_beside)) (c.in_ok-number.ensures.frozen honest nothing_beside is).2.is)))

pub mend_frozen-requires : goal.mend_frozen-requires
mend_frozen-requires g c =
    let snapshots = c.freeze.new.self.holdings.snapshots in
    subst (λ (x : CheckedImage). latest_at snapshots.standing snapshots.freezes ≡ Some x.frozen) (sym (c.deref.ensures ∙ c.in_ok-checked.ensures.ok))
    (checked_latest c.freeze.new.self c.in_ok-check_snapshot.field-0 c.in_ok-check_snapshot.ensures.checked)

pub returns-in_err-mend_frozen-clause-error : goal.returns-in_err-mend_frozen-clause-error
returns-in_err-mend_frozen-clause-error g c =
    let p = err_from_is_err_and c.from_residual-in_err-mend_frozen.result c.from_residual-in_err-mend_frozen.ensures.1 in
    rw (p.1, p.2) (λ honest.
    let held = g.D.Device.held in
    let image = g.D.Device.image in
    let v0 = c.args.volume.now in
    let v1 = c.freeze.new.self in
    let v2 = c.mend_frozen.new.volume in
    let checked : CheckedImage = c.in_ok-check_snapshot.field-0 in
    let number = c.in_ok-number.number in
    let snapshot = arc_value c.in_ok-number.field-0-1 in
    let h1 = c.mend_frozen.ensures.honest honest in
    let h0 = c.freeze.ensures.honest h1 in
    let beside = c.live.ensures.balance h0 in
    let is = alone (image v0.device) v0 beside.beside c.requires.idle.snapshots beside.is in
    let freezes = c.in_ok-number.ensures.frozen h1 in
    let of = c.in_ok-check_snapshot.ensures.checked in
    let found = checked_there (joins_of c.calls_join.ensures) (held v0.device) (held v1.device) (held v2.device) (image v0.device) (image v1.device) (image v2.device) v0 v1 v2 number snapshot checked is freezes of in
    let may = may_mend image c.damaged_where_a_rule_is_broken.ensures (held v0.device) (held v1.device) (image v0.device) v0 v1 number snapshot checked c.requires.pending c.requires.idle (c.requires.mounted h0) is freezes found
    (of_snapshot image c.damaged_where_a_rule_is_broken.ensures (held v0.device) (held v1.device) (image v0.device) v0 v1 number snapshot checked c.requires.pending c.requires.idle (c.requires.mounted h0) is freezes found of) in
    c.in_err-mend_frozen.ensures.error honest (subst (MayMend image v1 number) (sym (c.deref.ensures ∙ c.in_ok-checked.ensures.ok)) may))

pub returns-in_err-number-clause-went : goal.returns-in_err-number-clause-went
returns-in_err-number-clause-went g c = λ honest.
    by_reply g.D.Device.held g.D.Device.image c.args.volume.now c.freeze.new.self Freeze _ refl (c.in_err-number.ensures.refused honest)

pub returns-in_err-number-clause-cause : goal.returns-in_err-number-clause-cause
returns-in_err-number-clause-cause g c =
    let p = err_from_is_err_and c.from_residual.result c.from_residual.ensures.1 in
    rw (p.1, p.2) (λ e.
    failed_at_once g.D.Device.honest g.D.Device.held g.D.Device.image g.D.Device.failures c.args.volume.now c.freeze.new.self (c.in_err-number.ensures.cause (ap Err (same_refusal _ Device e))))

pub returns-in_err-check_snapshot-clause-went : goal.returns-in_err-check_snapshot-clause-went
returns-in_err-check_snapshot-clause-went g c = λ honest.
    let held = g.D.Device.held in
    let image = g.D.Device.image in
    let old = c.args.volume.now in
    let new = c.freeze.new.self in
    by_freeze held image old new c.in_ok-number.number (arc_value c.in_ok-number.field-0-1) (c.in_ok-number.ensures.frozen honest)

pub returns-in_err-check_snapshot-clause-cause : goal.returns-in_err-check_snapshot-clause-cause
returns-in_err-check_snapshot-clause-cause g c =
    let p = err_from_is_err_and c.from_residual-in_err-check_snapshot.result c.from_residual-in_err-check_snapshot.ensures.1 in
    rw (p.1, p.2) (λ e. absurd (c.in_err-check_snapshot.ensures.device (ap Err (same_refusal _ Device e))))

pub returns-in_err-checked-clause-went : goal.returns-in_err-checked-clause-went
returns-in_err-checked-clause-went g c = λ honest.
    let held = g.D.Device.held in
    let image = g.D.Device.image in
    let old = c.args.volume.now in
    let new = c.freeze.new.self in
    by_freeze held image old new c.in_ok-number.number (arc_value c.in_ok-number.field-0-1) (c.in_ok-number.ensures.frozen honest)

pub returns-in_err-mend_frozen-clause-went : goal.returns-in_err-mend_frozen-clause-went
returns-in_err-mend_frozen-clause-went g c = λ honest.
    let held = g.D.Device.held in
    let image = g.D.Device.image in
    let old = c.args.volume.now in
    let new = c.freeze.new.self in
    let end = c.mend_frozen.new.volume in
    went_on held image old new end (by_freeze held image old new c.in_ok-number.number (arc_value c.in_ok-number.field-0-1) (c.in_ok-number.ensures.frozen (c.mend_frozen.ensures.honest honest))) (c.mend_frozen.ensures.went honest)

pub returns-in_err-mend_frozen-clause-cause : goal.returns-in_err-mend_frozen-clause-cause
returns-in_err-mend_frozen-clause-cause g c =
    let p = err_from_is_err_and c.from_residual-in_err-mend_frozen.result c.from_residual-in_err-mend_frozen.ensures.1 in
    let held = g.D.Device.held in
    let image = g.D.Device.image in
    let old = c.args.volume.now in
    let new = c.freeze.new.self in
    let end = c.mend_frozen.new.volume in
    rw (p.1, p.2) (λ e.
    failed_later g.D.Device.honest held image g.D.Device.failures old new end c.freeze.ensures.honest (λ h. by_freeze held image old new c.in_ok-number.number (arc_value c.in_ok-number.field-0-1) (c.in_ok-number.ensures.frozen h))
    (c.in_err-mend_frozen.ensures.cause (ap Err (same_refusal _ Device e))))

pub returns : goal.returns
returns g c =
    let held = g.D.Device.held in
    let image = g.D.Device.image in
    let honest = g.D.Device.honest in
    let v0 = c.args.volume.now in
    let v1 = c.freeze.new.self in
    let v2 = c.mend_frozen.new.volume in
    let checked : CheckedImage = c.in_ok-check_snapshot.field-0 in
    let given : arc_value c.in_ok-checked.checked ≡ checked = c.in_ok-checked.ensures.ok in
    let check = check_of v1.kept.geometry checked in
    let number = c.in_ok-number.number in
    let snapshot = arc_value c.in_ok-number.field-0-1 in
    let first : honest v2.device → honest v0.device = λ h2. c.freeze.ensures.honest (c.mend_frozen.ensures.honest h2) in
    let ended : honest v2.device → Ended (held v0.device) (image v0.device) v0 number check _ checked (held v2.device) (image v2.device) v2 = λ h2.
    let h1 = c.mend_frozen.ensures.honest h2 in
    let beside = c.live.ensures.balance (c.freeze.ensures.honest h1) in
    let is = alone (image v0.device) v0 beside.beside c.requires.idle.snapshots beside.is in
    let freezes = c.in_ok-number.ensures.frozen h1 in
    ends (joins_of c.calls_join.ensures) (held v0.device) (held v1.device) (held v2.device) (image v0.device) (image v1.device) (image v2.device) v0 v1 v2 number snapshot checked
    c.requires.pending c.requires.idle is
    (checked_there (joins_of c.calls_join.ensures) (held v0.device) (held v1.device) (held v2.device) (image v0.device) (image v1.device) (image v2.device) v0 v1 v2 number snapshot checked is freezes c.in_ok-check_snapshot.ensures.checked)
    freezes (subst (λ x. MendsFrozen held image v1 number x v2) (c.deref.ensures ∙ given) (c.in_ok-mend_frozen.ensures.mends h2))
    in
    record {
      clean = λ h2.
          let e = ended h2 in
          c.mended_images_are_clean.ensures e.cycle.beside (held v0.device) (held v2.device) (image v0.device) (image v2.device) v0 v2 number (settled v0.kept.geometry (state_of (image v0.device) v0 nothing_beside)) check checked.findings _ e.cycle.answer
          (c.requires.mounted (first h2)) c.requires.pending c.requires.idle e.is e.is_settled.findings e.count e.cycle.goes;
      framed = λ h2. (ended h2).cycle.goes.is.framed;
      checked = λ h2. subst (λ x. IsChecked v0.kept.geometry (disk_of (image v0.device) v0) x) (sym given) (ended h2).is_checked;
      geometry = λ h2. (ended h2).cycle.goes.geometry;
      went = λ h2. went_on held image v0 v1 v2 (by_freeze held image v0 v1 number (arc_value c.in_ok-number.field-0-1) (c.in_ok-number.ensures.frozen (c.mend_frozen.ensures.honest h2))) (c.mend_frozen.ensures.went h2);
      error = tt;
      cause = λ e. absurd (not_refused _ Device e);
      honest = first;
    }
