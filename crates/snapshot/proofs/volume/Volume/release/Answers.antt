use Rattle.std.proofs.Common.{◌≡◌, ◌↔◌, Err, None, OnOk, IfErr, inl, inr, refl, sym, ◌∙◌, subst}
use Rattle.std.specs.Prelude.{IsErrOf}
use Rattle.std.proofs.lemmas.Result.{err_from_is_err_and}
use Rattle.layout.specs.declared.refusal.Refusal.TheVariants.{Device, NoSnapshot}
use Rattle.machine.specs.Command.{Release}
use Rattle.machine.specs.Standing.{image_at}
use Rattle.live_states.proofs.Images.{same_at}
use Rattle.live.specs.Alive.{Alive, state_of}
use Rattle.snapshot.specs.Goes.{Releases, Replies}
use Rattle.snapshot.proofs.Blaming.{memory_at_most}
use Rattle.snapshot.proofs.CallLemmas.{same_err}
use Rattle.snapshot.proofs.Standing.{none_frozen, refuses_release}
use Rattle.snapshot.proofs.Written.{ends_err, ends_keeps, ends_ok, none_where, some_stands, written_err, written_keeps}
use Rattle.snapshot.proofs.Writing.{Wrote, unless_memory, wrote_none, wrote_so}
use Rattle.snapshot.proofs.volume.Volume.release.Goals as goal

pub returns-then-not-has_snapshot-clause-refused : goal.returns-then-not-has_snapshot-clause-refused
returns-then-not-has_snapshot-clause-refused g c = λ h.
    let old = c.self.inside.live in
    subst (λ (l : Alive _). Replies (g.D.Device.held l.device) (g.D.Device.image l.device) l (Release c.args.number) (Err NoSnapshot) (g.D.Device.held l.device) (g.D.Device.image l.device) l) c.self.view_is
    (same_err g.D.Device.honest g.D.Device.held g.D.Device.image old old (Release c.args.number) NoSnapshot refl (λ beside is.
    inr (inr (inl (refuses_release old.kept.geometry (state_of (g.D.Device.image old.device) old beside) c.args.number (none_frozen (image_at old.holdings.snapshots.standing c.args.number) (image_at beside.snapshots.standing c.args.number)
    (same_at old.holdings.snapshots.standing beside.snapshots.standing is.belongs.1 c.args.number) ∙ sym c.has_snapshot.ensures ∙ c.if-not-has_snapshot.true))))))

pub invariant_of-self : goal.invariant_of-self
invariant_of-self g c =
    let e = c.write_all.ensures in
    written_keeps g.D.Device.honest g.D.Device.held g.D.Device.image c.self.inside.live c.write_all.new.live e.metadata e.holdings e.writes e.sound e.stands c.self.invariant e.honest

pub returns-in_err-write_all-clause-refused : goal.returns-in_err-write_all-clause-refused
returns-in_err-write_all-clause-refused g c =
    let p = err_from_is_err_and c.from_residual.result c.from_residual.ensures.1 in
    let e = c.in_err-write_all.ensures in
    let r = c.in_err-write_all.field-0.0 in
    let mid = c.write_all.new.live in
    rw (p.1, p.2)
    (λ h. subst (λ (l : Alive _). Replies (g.D.Device.held l.device) (g.D.Device.image l.device) l (Release c.args.number) (Err r) (g.D.Device.held mid.device) (g.D.Device.image mid.device) mid) c.self.view_is
    (written_err g.D.Device.honest g.D.Device.held g.D.Device.image c.self.inside.live mid e.metadata e.holdings e.writes e.sound e.stands (Release c.args.number) r (λ beside is. inr (inl e.error)) h))

pub invariant_of-self-2 : goal.invariant_of-self-2
invariant_of-self-2 g c =
    let e = c.in_ok-write_all.ensures in
    let o = c.end_keep-outcome.ensures in
    let old = c.self.inside.live in
    let mid = c.write_all.new.live in
    let new = c.end_keep-outcome.new.self in
    let standing = sym c.has_snapshot.ensures ∙ c.if-not-has_snapshot.false in
    ends_keeps g.D.Device.honest g.D.Device.held g.D.Device.image old mid e.metadata e.holdings e.writes e.sound e.stands new c.args.number standing e.pending o.device c.end_keep-outcome.result
    (ends_ok g.D.Device.honest g.D.Device.held g.D.Device.image old mid e.metadata e.holdings e.writes e.sound e.stands new c.args.number standing e.pending o.device c.end_keep-outcome.result c.device.ensures.stands o.released o.pending o.holdings o.geometry o.sound e.unsynced)
    o.untouched c.self.invariant e.honest

pub returns-clause-released : goal.returns-clause-released
returns-clause-released g c =
    let e = c.in_ok-write_all.ensures in
    let o = c.end_keep-outcome.ensures in
    let mid = c.write_all.new.live in
    let new = c.end_keep-outcome.new.self in
    let standing = sym c.has_snapshot.ensures ∙ c.if-not-has_snapshot.false in
    subst (λ (l : Alive _). OnOk c.end_keep-outcome.result (g.D.Device.honest new.device → Releases (g.D.Device.held l.device) (g.D.Device.image l.device) l c.args.number (g.D.Device.held new.device) (g.D.Device.image new.device) new)) c.self.view_is
    (ends_ok g.D.Device.honest g.D.Device.held g.D.Device.image c.self.inside.live mid e.metadata e.holdings e.writes e.sound e.stands new c.args.number standing e.pending o.device c.end_keep-outcome.result c.device.ensures.stands o.released o.pending o.holdings o.geometry o.sound e.unsynced)

pub returns-clause-refused : goal.returns-clause-refused
returns-clause-refused g c =
    let e = c.in_ok-write_all.ensures in
    let o = c.end_keep-outcome.ensures in
    let mid = c.write_all.new.live in
    let new = c.end_keep-outcome.new.self in
    let standing = sym c.has_snapshot.ensures ∙ c.if-not-has_snapshot.false in
    subst (λ (l : Alive _). IfErr c.end_keep-outcome.result (λ r. g.D.Device.honest new.device → Replies (g.D.Device.held l.device) (g.D.Device.image l.device) l (Release c.args.number) (Err r) (g.D.Device.held new.device) (g.D.Device.image new.device) new)) c.self.view_is
    (ends_err g.D.Device.honest g.D.Device.held g.D.Device.image c.self.inside.live mid e.metadata e.holdings e.writes e.sound e.stands new c.args.number standing e.pending o.device c.end_keep-outcome.result o.error o.untouched)

-- ---- what it wrote

pub returns-then-not-has_snapshot-clause-writes : goal.returns-then-not-has_snapshot-clause-writes
returns-then-not-has_snapshot-clause-writes g c = λ h.
    subst (λ (l : Alive _). Wrote g.D.Device.held g.D.Device.image l l.device) c.self.view_is (wrote_none g.D.Device.held g.D.Device.image c.self.inside.live)

pub returns-in_err-write_all-clause-writes : goal.returns-in_err-write_all-clause-writes
returns-in_err-write_all-clause-writes g c =
    let mid = c.write_all.new.live in
    subst (λ (l : Alive _). g.D.Device.honest mid.device → Wrote g.D.Device.held g.D.Device.image l mid.device) c.self.view_is
    (wrote_so g.D.Device.held g.D.Device.image g.D.Device.honest c.self.inside.live mid mid.device refl c.in_err-write_all.ensures.writes)

pub returns-in_err-write_all-clause-none : goal.returns-in_err-write_all-clause-none
returns-in_err-write_all-clause-none g c =
    let p = err_from_is_err_and c.from_residual.result c.from_residual.ensures.1 in
    rw (p.1, p.2, c.in_err-write_all.ensures.error) (λ is. absurd (let bad : Err Device ≡ Err NoSnapshot = is in cc))

pub returns-clause-writes : goal.returns-clause-writes
returns-clause-writes g c =
    let mid = c.write_all.new.live in
    let new = c.end_keep-outcome.new.self in
    subst (λ (l : Alive _). g.D.Device.honest new.device → Wrote g.D.Device.held g.D.Device.image l new.device) c.self.view_is
    (wrote_so g.D.Device.held g.D.Device.image g.D.Device.honest c.self.inside.live mid new.device c.end_keep-outcome.ensures.device c.in_ok-write_all.ensures.writes)

pub returns-clause-none : goal.returns-clause-none
returns-clause-none g c = λ is. absurd (unless_memory c.end_keep-outcome.result c.end_keep-outcome.ensures.error is)

-- ---- why it is refused

pub returns-then-not-has_snapshot-clause-stands : goal.returns-then-not-has_snapshot-clause-stands
returns-then-not-has_snapshot-clause-stands g c =
    subst (λ (l : Alive _). (Err NoSnapshot ≡ Err NoSnapshot) ↔ (image_at l.holdings.snapshots.standing c.args.number ≡ None)) c.self.view_is
    (λ is. none_where (image_at c.self.inside.live.holdings.snapshots.standing c.args.number) (sym c.has_snapshot.ensures ∙ c.if-not-has_snapshot.true), λ none. refl)

pub returns-then-not-has_snapshot-clause-error : goal.returns-then-not-has_snapshot-clause-error
returns-then-not-has_snapshot-clause-error g c = inl refl

pub returns-in_err-write_all-clause-stands : goal.returns-in_err-write_all-clause-stands
returns-in_err-write_all-clause-stands g c =
    let p = err_from_is_err_and c.from_residual.result c.from_residual.ensures.1 in
    subst (λ (l : Alive _). IsErrOf c.from_residual.result NoSnapshot ↔ (image_at l.holdings.snapshots.standing c.args.number ≡ None)) c.self.view_is
    (rw (p.1, p.2, c.in_err-write_all.ensures.error) (
      λ is. absurd (let bad : Err Device ≡ Err NoSnapshot = is in cc),
      λ none. absurd (some_stands (image_at c.self.inside.live.holdings.snapshots.standing c.args.number) (sym c.has_snapshot.ensures ∙ c.if-not-has_snapshot.false) none),
    ))

pub returns-in_err-write_all-clause-error : goal.returns-in_err-write_all-clause-error
returns-in_err-write_all-clause-error g c =
    let p = err_from_is_err_and c.from_residual.result c.from_residual.ensures.1 in
    rw (p.1, p.2) (inr (inr c.in_err-write_all.ensures.error))

pub returns-clause-stands : goal.returns-clause-stands
returns-clause-stands g c =
    subst (λ (l : Alive _). IsErrOf c.end_keep-outcome.result NoSnapshot ↔ (image_at l.holdings.snapshots.standing c.args.number ≡ None)) c.self.view_is (
      λ is. absurd (unless_memory c.end_keep-outcome.result c.end_keep-outcome.ensures.error is),
      λ none. absurd (some_stands (image_at c.self.inside.live.holdings.snapshots.standing c.args.number) (sym c.has_snapshot.ensures ∙ c.if-not-has_snapshot.false) none),
    )

pub returns-clause-error : goal.returns-clause-error
returns-clause-error g c = memory_at_most NoSnapshot c.end_keep-outcome.result c.end_keep-outcome.ensures.error
