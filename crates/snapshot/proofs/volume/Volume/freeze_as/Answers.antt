use Rattle.std.proofs.Common.{◌≡◌, ◌↔◌, ℕ, List, [], true, not, Ok, Err, inl, inr, refl, sym, ap, ◌∙◌, subst}
use Rattle.std.specs.Prelude.{IsErrOf, IsTrue}
use Rattle.std.specs.Arc.{arc_value}
use Rattle.std.proofs.lemmas.Bool.{not-false, not-true, true≢false}
use Rattle.std.proofs.lemmas.Result.{err_from_is_err_and}
use Rattle.layout.specs.declared.refusal.Refusal.{Refusal}
use Rattle.layout.specs.declared.refusal.Refusal.TheVariants.{Device, TooManySnapshots}
use Rattle.device.specs.Media.{Held}
use Rattle.machine.specs.Command.{Freeze}
use Rattle.machine.specs.Snapshot.{frozen, settled}
use Rattle.machine.specs.Standing.{begun as more, too_many}
use Rattle.frozen.specs.Kept.{Kept, KeepsMetadata}
use Rattle.metadata.specs.Shown.{Shows}
use Rattle.softdep.specs.Queued.{pending_of}
use Rattle.softdep.specs.Syncing.{AreWrites}
use Rattle.live_states.specs.Holdings.{AreImagesOf, Beside, Holdings}
use Rattle.live_states.specs.Snapshots.{IsSettled, keeping}
use Rattle.live_states.proofs.Standing.{has}
use Rattle.live.specs.Alive.{Alive, StandsSo, disk_of, state_of}
use Rattle.live.specs.Seen.{seen_of}
use Rattle.snapshot.specs.Goes.{Freezes, HasBeside, Replies, StaysSafe}
use Rattle.snapshot.proofs.CallLemmas.{same_err}
use Rattle.snapshot.proofs.Room.{full_cause}
use Rattle.snapshot.proofs.Written.{begins, written_err, written_keeps}
use Rattle.snapshot.proofs.Writing.{Wrote, wrote_none, wrote_so}
use Rattle.snapshot.proofs.volume.Volume.freeze_as.Goals as goal

pub returns-then-not-may_freeze-clause-refused : goal.returns-then-not-may_freeze-clause-refused
returns-then-not-may_freeze-clause-refused g c = λ h.
    let old = c.self.inside.live in
    subst (λ (l : Alive _). Replies (g.D.Device.held l.device) (g.D.Device.image l.device) l Freeze (Err TooManySnapshots) (g.D.Device.held l.device) (g.D.Device.image l.device) l) c.self.view_is
    (same_err g.D.Device.honest g.D.Device.held g.D.Device.image old old Freeze TooManySnapshots refl
    (full_cause (g.D.Device.image old.device) old (not-false (too_many old.holdings.snapshots) (sym c.may_freeze.ensures ∙ c.if-not-may_freeze.true))))

pub invariant_of-self : goal.invariant_of-self
invariant_of-self g c =
    let e = c.write_all.ensures in
    written_keeps g.D.Device.honest g.D.Device.held g.D.Device.image c.self.inside.live c.write_all.new.live e.metadata e.holdings e.writes e.sound e.stands c.self.invariant e.honest

pub returns-in_err-write_all-clause-refused : goal.returns-in_err-write_all-clause-refused
returns-in_err-write_all-clause-refused g c =
    let p = err_from_is_err_and c.from_residual.result c.from_residual.ensures.1 in
    let e = c.in_err-write_all.ensures in
    let r = c.in_err-write_all.field-0.0 in
    let mid = c.write_all.new.live in
    rw (p.1, p.2)
    (λ h. subst (λ (l : Alive _). Replies (g.D.Device.held l.device) (g.D.Device.image l.device) l Freeze (Err r) (g.D.Device.held mid.device) (g.D.Device.image mid.device) mid) c.self.view_is
    (written_err g.D.Device.honest g.D.Device.held g.D.Device.image c.self.inside.live mid e.metadata e.holdings e.writes e.sound e.stands Freeze r (λ beside is. inr (inl e.error)) h))

-- what this volume is to keep
abbrev IsWhole : {D : Type 0} → Alive D → Kept → Type 0
IsWhole live snapshot = (snapshot.geometry ≡ live.kept.geometry) × KeepsMetadata snapshot

abbrev IsShown : {D : Type 0} → (D → Type 0) → (D → List (List ℕ)) → Alive D → Kept → Type 0
IsShown honest image_of live snapshot = honest live.device → (beside : Beside) → AreImagesOf live.holdings.snapshots beside.snapshots
    → Shows snapshot (settled live.kept.geometry (state_of (image_of live.device) live beside))

-- where it is settled, it is what a check is to see
is_shown : {D : Type 0} (honest : D → Type 0) (image_of : D → List (List ℕ)) (live : Alive D) (snapshot : Kept) → IsSettled live.kept live.holdings snapshot → (honest live.device → Shows live.kept (seen_of image_of live))
    → IsShown honest image_of live snapshot
is_shown honest image_of live snapshot settled shown h beside belongs =
    settled (state_of (image_of live.device) live beside) (shown h) (has (disk_of (image_of live.device) live) (pending_of live.queue) live.holdings beside belongs)

pub keep-number-requires-clause-room : goal.keep-number-requires-clause-room
keep-number-requires-clause-room g c =
    ap (λ (h : Holdings). too_many h.snapshots) c.in_ok-write_all.ensures.holdings ∙ not-true (too_many c.self.inside.live.holdings.snapshots) (sym c.may_freeze.ensures ∙ c.if-not-may_freeze.false)

pub keep-number-requires-clause-settled : goal.keep-number-requires-clause-settled
keep-number-requires-clause-settled g c =
    let e = c.in_ok-write_all.ensures in
    let mid = c.write_all.new.live in
    let snapshot = arc_value c.args.snapshot in
    subst (λ k. IsSettled k mid.holdings snapshot) (sym e.metadata) (subst (λ h. IsSettled c.self.inside.live.kept h snapshot) (sym e.holdings) (subst (λ (l : Alive _). IsSettled l.kept l.holdings snapshot) (sym c.self.view_is) c.requires.settled))

pub keep-number-requires-clause-whole : goal.keep-number-requires-clause-whole
keep-number-requires-clause-whole g c =
    let whole = subst (λ (l : Alive _). IsWhole l (arc_value c.args.snapshot)) (sym c.self.view_is) c.requires.whole in
    (whole.0 ∙ ap (λ (k : Kept). k.geometry) (sym c.in_ok-write_all.ensures.metadata), whole.1)

module _ {D : Type 0} (honest : D → Type 0) (held_of : D → Held) (image_of : D → List (List ℕ)) (old mid new : Alive D) (kept : mid.kept ≡ old.kept) (holdings : mid.holdings ≡ old.holdings)
    (flushes : honest mid.device → AreWrites old.kept.geometry (image_of old.device) (held_of old.device) (pending_of old.queue) (image_of mid.device) (held_of mid.device) (pending_of mid.queue))
    (sound : honest mid.device → StaysSafe (held_of old.device) old (held_of mid.device) mid) (stands : honest mid.device → StandsSo (image_of mid.device) mid) (may : not (too_many old.holdings.snapshots) ≡ true) (none : pending_of mid.queue ≡ [])
    (number : ℕ) (is_number : number ≡ mid.holdings.snapshots.freezes) (snapshot : Kept) (is_kept : new ≡ record mid { holdings = keeping mid.holdings snapshot })
    (back : honest mid.device → honest old.device)
    (shown : IsShown honest image_of old snapshot)
    (begun : (beside : Beside) → state_of (image_of new.device) new (record { snapshots = more beside.snapshots (settled mid.kept.geometry (state_of (image_of mid.device) mid beside)) }) ≡ frozen mid.kept.geometry (state_of (image_of mid.device) mid beside))
    (so : honest new.device → StandsSo (image_of new.device) new) where
  is_frozen : honest new.device → Freezes (held_of old.device) (image_of old.device) old number snapshot (held_of new.device) (image_of new.device) new
  is_frozen h =
      let there = subst honest (ap (λ (l : Alive D). l.device) is_kept) h in
      begins honest held_of image_of old mid kept holdings flushes sound stands new number snapshot (not-true (too_many old.holdings.snapshots) may) none so there (is_kept, shown (back there), begun, is_number)

  then_beside : (honest old.device → HasBeside (image_of old.device) old) → honest new.device → HasBeside (image_of new.device) new
  then_beside has h =
      let b = has (back (subst honest (ap (λ (l : Alive D). l.device) is_kept) h)) in
      let f = is_frozen h b.beside b.is in
      record { beside = record { snapshots = more b.beside.snapshots (settled old.kept.geometry (state_of (image_of old.device) old b.beside)) }; is = f.2.is }

pub invariant_of-self-2 : goal.invariant_of-self-2
invariant_of-self-2 g c =
    let e = c.in_ok-write_all.ensures in
    let k = c.keep-number.ensures in
    let mid = c.write_all.new.live in
    let snapshot = arc_value c.args.snapshot in
    then_beside g.D.Device.honest g.D.Device.held g.D.Device.image c.self.inside.live mid c.keep-number.new.self e.metadata e.holdings e.writes e.sound e.stands (sym c.may_freeze.ensures ∙ c.if-not-may_freeze.false) e.pending
    c.keep-number.result k.number snapshot k.kept e.honest (is_shown g.D.Device.honest g.D.Device.image c.self.inside.live snapshot
    (subst (λ (l : Alive _). IsSettled l.kept l.holdings snapshot) (sym c.self.view_is) c.requires.settled) c.keeps_metadata.ensures.shown) k.frozen c.device.ensures.stands c.self.invariant

pub returns-clause-frozen : goal.returns-clause-frozen
returns-clause-frozen g c =
    let e = c.in_ok-write_all.ensures in
    let k = c.keep-number.ensures in
    let mid = c.write_all.new.live in
    let new = c.keep-number.new.self in
    let number = c.keep-number.result in
    let snapshot = arc_value c.args.snapshot in
    λ h. subst (λ (l : Alive _). Freezes (g.D.Device.held l.device) (g.D.Device.image l.device) l number snapshot (g.D.Device.held new.device) (g.D.Device.image new.device) new) c.self.view_is
    (is_frozen g.D.Device.honest g.D.Device.held g.D.Device.image c.self.inside.live mid new e.metadata e.holdings e.writes e.sound e.stands (sym c.may_freeze.ensures ∙ c.if-not-may_freeze.false) e.pending
    number k.number snapshot k.kept e.honest (is_shown g.D.Device.honest g.D.Device.image c.self.inside.live snapshot
    (subst (λ (l : Alive _). IsSettled l.kept l.holdings snapshot) (sym c.self.view_is) c.requires.settled) c.keeps_metadata.ensures.shown) k.frozen c.device.ensures.stands h)

-- ---- what it wrote

pub returns-then-not-may_freeze-clause-writes : goal.returns-then-not-may_freeze-clause-writes
returns-then-not-may_freeze-clause-writes g c = λ h.
    subst (λ (l : Alive _). Wrote g.D.Device.held g.D.Device.image l l.device) c.self.view_is (wrote_none g.D.Device.held g.D.Device.image c.self.inside.live)

pub returns-in_err-write_all-clause-writes : goal.returns-in_err-write_all-clause-writes
returns-in_err-write_all-clause-writes g c =
    let mid = c.write_all.new.live in
    subst (λ (l : Alive _). g.D.Device.honest mid.device → Wrote g.D.Device.held g.D.Device.image l mid.device) c.self.view_is
    (wrote_so g.D.Device.held g.D.Device.image g.D.Device.honest c.self.inside.live mid mid.device refl c.in_err-write_all.ensures.writes)

pub returns-in_err-write_all-clause-unchanged : goal.returns-in_err-write_all-clause-unchanged
returns-in_err-write_all-clause-unchanged g c =
    let p = err_from_is_err_and c.from_residual.result c.from_residual.ensures.1 in
    rw (p.1, p.2, c.in_err-write_all.ensures.error) (λ is. absurd (let bad : Err Device ≡ Err TooManySnapshots = is in cc))

pub returns-clause-writes : goal.returns-clause-writes
returns-clause-writes g c =
    let mid = c.write_all.new.live in
    let new = c.keep-number.new.self in
    subst (λ (l : Alive _). g.D.Device.honest new.device → Wrote g.D.Device.held g.D.Device.image l new.device) c.self.view_is
    (wrote_so g.D.Device.held g.D.Device.image g.D.Device.honest c.self.inside.live mid new.device (ap (λ (l : Alive _). l.device) c.keep-number.ensures.kept) c.in_ok-write_all.ensures.writes)

-- ---- why it is refused

pub returns-then-not-may_freeze-clause-many : goal.returns-then-not-may_freeze-clause-many
returns-then-not-may_freeze-clause-many g c =
    subst (λ (l : Alive _). (Err TooManySnapshots ≡ Err TooManySnapshots) ↔ IsTrue (too_many l.holdings.snapshots)) c.self.view_is
    (λ is. not-false (too_many c.self.inside.live.holdings.snapshots) (sym c.may_freeze.ensures ∙ c.if-not-may_freeze.true), λ some. refl)

pub returns-then-not-may_freeze-clause-error : goal.returns-then-not-may_freeze-clause-error
returns-then-not-may_freeze-clause-error g c = inl refl

pub returns-in_err-write_all-clause-many : goal.returns-in_err-write_all-clause-many
returns-in_err-write_all-clause-many g c =
    let p = err_from_is_err_and c.from_residual.result c.from_residual.ensures.1 in
    let room = not-true (too_many c.self.inside.live.holdings.snapshots) (sym c.may_freeze.ensures ∙ c.if-not-may_freeze.false) in
    subst (λ (l : Alive _). IsErrOf c.from_residual.result TooManySnapshots ↔ IsTrue (too_many l.holdings.snapshots)) c.self.view_is
    (rw (p.1, p.2, c.in_err-write_all.ensures.error) (λ is. absurd (let bad : Err Device ≡ Err TooManySnapshots = is in cc), λ some. absurd (true≢false (sym some ∙ room))))

pub returns-in_err-write_all-clause-error : goal.returns-in_err-write_all-clause-error
returns-in_err-write_all-clause-error g c =
    let p = err_from_is_err_and c.from_residual.result c.from_residual.ensures.1 in
    rw (p.1, p.2) (inr c.in_err-write_all.ensures.error)

ok_is_no_err : {T : Type 0} (t : T) (r : Refusal) → IsErrOf (Ok t) r → ⊥
ok_is_no_err t r is = let bad : Ok t ≡ Err r = is in cc

pub returns-clause-many : goal.returns-clause-many
returns-clause-many g c =
    let room = not-true (too_many c.self.inside.live.holdings.snapshots) (sym c.may_freeze.ensures ∙ c.if-not-may_freeze.false) in
    subst (λ (l : Alive _). IsErrOf (Ok c.keep-number.result) TooManySnapshots ↔ IsTrue (too_many l.holdings.snapshots)) c.self.view_is
    (λ is. absurd (ok_is_no_err c.keep-number.result TooManySnapshots is), λ some. absurd (true≢false (sym some ∙ room)))

-- ---- what it keeps

pub returns-clause-keeps : goal.returns-clause-keeps
returns-clause-keeps g c =
    let e = c.in_ok-write_all.ensures in
    let snapshot = arc_value c.args.snapshot in
    let k = c.keep-number.ensures in
    subst (λ (l : Alive _). (c.keep-number.result ≡ l.holdings.snapshots.freezes) × (c.keep-number.new.self.kept ≡ l.kept) × (c.keep-number.new.self.holdings ≡ keeping l.holdings snapshot)) c.self.view_is
    (k.number ∙ ap (λ (h : Holdings). h.snapshots.freezes) e.holdings, ap (λ (l : Alive _). l.kept) k.kept ∙ e.metadata, ap (λ (l : Alive _). l.holdings) k.kept ∙ ap (λ h. keeping h snapshot) e.holdings)
