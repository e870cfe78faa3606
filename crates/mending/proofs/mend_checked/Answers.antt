use Rattle.std.proofs.Common.{◌≡◌, ◌∙◌, Err, Some, ap, refl, subst, sym}
use Rattle.std.specs.Arc.{arc_value}
use Rattle.std.proofs.lemmas.Result.{err_from_is_err_and}
use Rattle.frozen.specs.Kept.{KeepsMetadata, Kept}
use Rattle.fsck.specs.Checked.{CheckedImage}
use Rattle.machine.specs.Snapshot.{settled}
use Rattle.machine.specs.Standing.{latest_at}
use Rattle.machine.proofs.Snapshots.{at_here}
use Rattle.live_states.specs.Holdings.{Holdings, nothing_beside}
use Rattle.live_states.specs.Snapshots.{IsSettled}
use Rattle.snapshot.specs.Alive.{Alive, state_of}
use Rattle.snapshot.specs.Asked.{check_of}
use Rattle.mending.proofs.MayMend.{may_mend, of_loaded}
use Rattle.mending.proofs.Ended.{Ended, checked_before, ends}
use Rattle.layout.specs.declared.refusal.Refusal.TheVariants.{Device}
use Rattle.snapshot.proofs.Blaming.{same_refusal}
use Rattle.snapshot.proofs.Refusals.{may_freeze, refused_so}
use Rattle.machine.specs.Command.{Freeze}
use Rattle.mending.proofs.Going.{by_freeze, by_reply, failed_at_once, failed_later, not_refused, went_nowhere, went_on}
use Rattle.mending.proofs.Joining.{joins_of}
use Rattle.mending.proofs.Seen.{alone, settled_idle}
use Rattle.mending.proofs.mend_checked.Goals as goal

-- the snapshot is what the volume keeps
pub freeze_as-requires-clause-settled : goal.freeze_as-requires-clause-settled
freeze_as-requires-clause-settled g c =
    let old = c.args.volume.now in
    let same : old.kept ≡ arc_value c.in_ok-snapshot.snapshot = c.requires.kept ∙ sym (c.in_ok-snapshot.ensures.cases ∙ c.frozen.ensures) in
    subst (IsSettled old.kept old.holdings) same (settled_idle old.kept old.holdings c.requires.idle)

pub freeze_as-requires-clause-whole : goal.freeze_as-requires-clause-whole
freeze_as-requires-clause-whole g c =
    let same : c.args.volume.now.kept ≡ arc_value c.in_ok-snapshot.snapshot = c.requires.kept ∙ sym (c.in_ok-snapshot.ensures.cases ∙ c.frozen.ensures) in
    (ap (λ (k : Kept). k.geometry) (sym same), subst KeepsMetadata (ap (λ (l : Alive g.row.D.Denot). l.kept) c.live.ensures.live ∙ same) c.keeps_metadata.ensures.whole)

pub mend_frozen-requires : goal.mend_frozen-requires
mend_frozen-requires g c =
    let snapshots = c.args.volume.now.holdings.snapshots in
    ap (λ (h : Holdings). latest_at h.snapshots.standing h.snapshots.freezes) c.in_ok-number.ensures.keeps.2
    ∙ at_here snapshots.freezes (arc_value c.in_ok-snapshot.snapshot) snapshots.standing ∙ ap Some (c.in_ok-snapshot.ensures.cases ∙ c.frozen.ensures)

pub returns-in_err-number-clause-error : goal.returns-in_err-number-clause-error
returns-in_err-number-clause-error g c =
    let p = err_from_is_err_and c.from_residual-in_err-number.result c.from_residual-in_err-number.ensures.1 in
    rw (p.1, p.2) (λ honest.
    let held = g.D.Device.held in
    let image = g.D.Device.image in
    let old = c.args.volume.now in
    let new = c.freeze_as.new.self in
    let beside = c.live.ensures.balance (c.freeze_as.ensures.honest honest) in
    let is = alone (image old.device) old beside.beside c.requires.idle.snapshots beside.is in
    refused_so (held old.device) (image old.device) old (held new.device) (image new.device) new nothing_beside is Freeze
    (may_freeze old.kept.geometry (state_of (image old.device) old nothing_beside) refl) tt _ (c.in_err-number.ensures.refused honest))

pub returns-in_err-mend_frozen-clause-error : goal.returns-in_err-mend_frozen-clause-error
returns-in_err-mend_frozen-clause-error g c =
    let p = err_from_is_err_and c.from_residual-in_err-mend_frozen.result c.from_residual-in_err-mend_frozen.ensures.1 in
    rw (p.1, p.2) (λ honest.
    let held = g.D.Device.held in
    let image = g.D.Device.image in
    let v0 = c.args.volume.now in
    let v1 = c.freeze_as.new.self in
    let v2 = c.mend_frozen.new.volume in
    let checked : CheckedImage = c.args.checked.now in
    let number = c.in_ok-number.number in
    let snapshot = arc_value c.in_ok-snapshot.snapshot in
    let h1 = c.mend_frozen.ensures.honest honest in
    let h0 = c.freeze_as.ensures.honest h1 in
    let beside = c.live.ensures.balance h0 in
    let is = alone (image v0.device) v0 beside.beside c.requires.idle.snapshots beside.is in
    let freezes = c.in_ok-number.ensures.frozen h1 in
    let found = checked_before (joins_of c.calls_join.ensures) (held v0.device) (held v1.device) (held v2.device) (image v0.device) (image v1.device) (image v2.device) v0 v1 v2 checked
    c.requires.pending c.requires.idle (sym (ap (λ (k : Kept). k.geometry) c.requires.kept)) (c.requires.loaded h0) c.tells_its_image.ensures in
    c.in_err-mend_frozen.ensures.error honest
    (may_mend image c.damaged_where_a_rule_is_broken.ensures (held v0.device) (held v1.device) (image v0.device) v0 v1 number snapshot checked c.requires.pending c.requires.idle (c.requires.mounted h0) is freezes found
    (of_loaded image c.damaged_where_a_rule_is_broken.ensures (held v0.device) (held v1.device) (image v0.device) v0 v1 number snapshot checked c.requires.pending c.requires.idle (c.requires.mounted h0) is freezes found (sym (ap (λ (k : Kept). k.geometry) c.requires.kept)) (c.requires.loaded h0))))

pub returns-in_err-snapshot-clause-went : goal.returns-in_err-snapshot-clause-went
returns-in_err-snapshot-clause-went g c = λ honest. went_nowhere g.D.Device.held g.D.Device.image c.args.volume.now

pub returns-in_err-number-clause-went : goal.returns-in_err-number-clause-went
returns-in_err-number-clause-went g c = λ honest.
    by_reply g.D.Device.held g.D.Device.image c.args.volume.now c.freeze_as.new.self Freeze _ refl (c.in_err-number.ensures.refused honest)

pub returns-in_err-number-clause-cause : goal.returns-in_err-number-clause-cause
returns-in_err-number-clause-cause g c =
    let p = err_from_is_err_and c.from_residual-in_err-number.result c.from_residual-in_err-number.ensures.1 in
    rw (p.1, p.2) (λ e.
    failed_at_once g.D.Device.honest g.D.Device.held g.D.Device.image g.D.Device.failures c.args.volume.now c.freeze_as.new.self (c.in_err-number.ensures.cause (ap Err (same_refusal _ Device e))))

pub returns-in_err-mend_frozen-clause-went : goal.returns-in_err-mend_frozen-clause-went
returns-in_err-mend_frozen-clause-went g c = λ honest.
    let held = g.D.Device.held in
    let image = g.D.Device.image in
    let old = c.args.volume.now in
    let new = c.freeze_as.new.self in
    let end = c.mend_frozen.new.volume in
    went_on held image old new end (by_freeze held image old new c.in_ok-number.number (arc_value c.in_ok-snapshot.snapshot) (c.in_ok-number.ensures.frozen (c.mend_frozen.ensures.honest honest))) (c.mend_frozen.ensures.went honest)

pub returns-in_err-mend_frozen-clause-cause : goal.returns-in_err-mend_frozen-clause-cause
returns-in_err-mend_frozen-clause-cause g c =
    let p = err_from_is_err_and c.from_residual-in_err-mend_frozen.result c.from_residual-in_err-mend_frozen.ensures.1 in
    let held = g.D.Device.held in
    let image = g.D.Device.image in
    let old = c.args.volume.now in
    let new = c.freeze_as.new.self in
    let end = c.mend_frozen.new.volume in
    rw (p.1, p.2) (λ e.
    failed_later g.D.Device.honest held image g.D.Device.failures old new end c.freeze_as.ensures.honest (λ h. by_freeze held image old new c.in_ok-number.number (arc_value c.in_ok-snapshot.snapshot) (c.in_ok-number.ensures.frozen h))
    (c.in_err-mend_frozen.ensures.cause (ap Err (same_refusal _ Device e))))

pub returns : goal.returns
returns g c =
    let held = g.D.Device.held in
    let image = g.D.Device.image in
    let honest = g.D.Device.honest in
    let v0 = c.args.volume.now in
    let v1 = c.freeze_as.new.self in
    let v2 = c.mend_frozen.new.volume in
    let checked : CheckedImage = c.args.checked.now in
    let check = check_of v1.kept.geometry checked in
    let number = c.in_ok-number.number in
    let first : honest v2.device → honest v0.device = λ h2. c.freeze_as.ensures.honest (c.mend_frozen.ensures.honest h2) in
    let ended : honest v2.device → Ended (held v0.device) (image v0.device) v0 number check _ checked (held v2.device) (image v2.device) v2 = λ h2.
    let h1 = c.mend_frozen.ensures.honest h2 in
    let h0 = c.freeze_as.ensures.honest h1 in
    let beside = c.live.ensures.balance h0 in
    let is = alone (image v0.device) v0 beside.beside c.requires.idle.snapshots beside.is in
    ends (joins_of c.calls_join.ensures) (held v0.device) (held v1.device) (held v2.device) (image v0.device) (image v1.device) (image v2.device) v0 v1 v2 number (arc_value c.in_ok-snapshot.snapshot) checked
    c.requires.pending c.requires.idle is
    (checked_before (joins_of c.calls_join.ensures) (held v0.device) (held v1.device) (held v2.device) (image v0.device) (image v1.device) (image v2.device) v0 v1 v2 checked c.requires.pending c.requires.idle (sym (ap (λ (k : Kept). k.geometry) c.requires.kept)) (c.requires.loaded h0) c.tells_its_image.ensures)
    (c.in_ok-number.ensures.frozen h1) (c.in_ok-mend_frozen.ensures.mends h2)
    in
    record {
      clean = λ h2.
          let e = ended h2 in
          c.mended_images_are_clean.ensures e.cycle.beside (held v0.device) (held v2.device) (image v0.device) (image v2.device) v0 v2 number (settled v0.kept.geometry (state_of (image v0.device) v0 nothing_beside)) check checked.findings _ e.cycle.answer
          (c.requires.mounted (first h2)) c.requires.pending c.requires.idle e.is e.is_settled.findings e.count e.cycle.goes;
      framed = λ h2. (ended h2).cycle.goes.is.framed;
      geometry = λ h2. (ended h2).cycle.goes.geometry;
      went = λ h2. went_on held image v0 v1 v2 (by_freeze held image v0 v1 number (arc_value c.in_ok-snapshot.snapshot) (c.in_ok-number.ensures.frozen (c.mend_frozen.ensures.honest h2))) (c.mend_frozen.ensures.went h2);
      error = tt;
      cause = λ e. absurd (not_refused _ Device e);
      honest = first;
    }
