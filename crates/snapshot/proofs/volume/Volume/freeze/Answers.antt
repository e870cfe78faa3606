use Rattle.std.proofs.Common.{◌≡◌, ◌↔◌, Err, inl, refl, sym, ◌∙◌, subst}
use Rattle.std.specs.Prelude.{IsTrue}
use Rattle.std.specs.Arc.{arc_value}
use Rattle.std.proofs.lemmas.Bool.{not-false}
use Rattle.std.proofs.lemmas.Result.{err_from_is_err_and}
use Rattle.layout.specs.declared.refusal.Refusal.TheVariants.{NoMemory, TooManySnapshots}
use Rattle.machine.specs.Command.{Freeze}
use Rattle.machine.specs.Standing.{too_many}
use Rattle.live_states.specs.Snapshots.{IsSettled}
use Rattle.live.specs.Alive.{Alive}
use Rattle.snapshot.specs.Goes.{Freezes, Replies}
use Rattle.snapshot.proofs.CallLemmas.{same_err}
use Rattle.snapshot.proofs.Room.{full_cause}
use Rattle.snapshot.proofs.Writing.{Wrote, wrote_none}
use Rattle.snapshot.proofs.volume.Volume.freeze.Goals as goal

pub returns-then-not-may_freeze-clause-refused : goal.returns-then-not-may_freeze-clause-refused
returns-then-not-may_freeze-clause-refused g c = λ h.
    let old = c.self.inside.live in
    subst (λ (l : Alive _). Replies (g.D.Device.held l.device) (g.D.Device.image l.device) l Freeze (Err TooManySnapshots) (g.D.Device.held l.device) (g.D.Device.image l.device) l) c.self.view_is
    (same_err g.D.Device.honest g.D.Device.held g.D.Device.image old old Freeze TooManySnapshots refl
    (full_cause (g.D.Device.image old.device) old (not-false (too_many old.holdings.snapshots) (sym c.may_freeze.ensures ∙ c.if-not-may_freeze.true))))

pub returns-then-not-may_freeze-clause-writes : goal.returns-then-not-may_freeze-clause-writes
returns-then-not-may_freeze-clause-writes g c = λ h.
    subst (λ (l : Alive _). Wrote g.D.Device.held g.D.Device.image l l.device) c.self.view_is (wrote_none g.D.Device.held g.D.Device.image c.self.inside.live)

pub returns-then-not-may_freeze-clause-many : goal.returns-then-not-may_freeze-clause-many
returns-then-not-may_freeze-clause-many g c =
    subst (λ (l : Alive _). (Err TooManySnapshots ≡ Err TooManySnapshots) ↔ IsTrue (too_many l.holdings.snapshots)) c.self.view_is
    (λ is. not-false (too_many c.self.inside.live.holdings.snapshots) (sym c.may_freeze.ensures ∙ c.if-not-may_freeze.true), λ some. refl)

pub returns-in_err-kept-clause-refused : goal.returns-in_err-kept-clause-refused
returns-in_err-kept-clause-refused g c =
    let p = err_from_is_err_and c.from_residual.result c.from_residual.ensures.1 in
    let old = c.args.self.now in
    rw (p.1, p.2, c.in_err-kept.ensures.error) (λ h. same_err g.D.Device.honest g.D.Device.held g.D.Device.image old old Freeze NoMemory refl (λ beside is. inl refl))

pub returns-in_err-kept-clause-writes : goal.returns-in_err-kept-clause-writes
returns-in_err-kept-clause-writes g c = λ h. wrote_none g.D.Device.held g.D.Device.image c.args.self.now

pub freeze_as-requires-clause-settled : goal.freeze_as-requires-clause-settled
freeze_as-requires-clause-settled g c =
    subst (λ (l : Alive _). IsSettled l.kept l.holdings (arc_value c.in_ok-kept.field-0.kept)) c.live.ensures.live c.in_ok-kept.ensures.settled

pub returns-in_err-number-clause-refused : goal.returns-in_err-number-clause-refused
returns-in_err-number-clause-refused g c =
    let p = err_from_is_err_and c.from_residual-in_err-number.result c.from_residual-in_err-number.ensures.1 in
    rw (p.1, p.2) c.in_err-number.ensures.refused

pub returns-clause-frozen : goal.returns-clause-frozen
returns-clause-frozen g c = λ h.
    let old = c.args.self.now in
    let new = c.freeze_as.new.self in
    subst (λ k. Freezes (g.D.Device.held old.device) (g.D.Device.image old.device) old c.in_ok-number.number k (g.D.Device.held new.device) (g.D.Device.image new.device) new) (sym c.in_ok-kept.ensures.given)
    (c.in_ok-number.ensures.frozen h)
