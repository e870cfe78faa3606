use Rattle.std.proofs.Common.{[], sym, subst}
use Rattle.std.proofs.lemmas.Result.{err_from_is_err_and}
use Rattle.ordering.specs.Cuts.{users_view}
use Rattle.machine.specs.Command.{Create, Number}
use Rattle.softdep.specs.Queued.{pending_of}
use Rattle.live_states.specs.Planned.{IsPlanned, IsPlannedWith, IsRefused}
use Rattle.live_states.proofs.Standing.{stands_so}
use Rattle.live.specs.Alive.{Alive, MayRefuse, disk_of}
use Rattle.live.specs.declared.ending.Ending.TheVariants.{Nothing}
use Rattle.live.specs.Ended.{ended}
use Rattle.live_states.specs.Holdings.{with_held}
use Rattle.live.proofs.Carrying.{alone, few_held}
use Rattle.live.proofs.Commands.{refused}
use Rattle.live.proofs.Quietly.{none_seen}
use Rattle.live.proofs.live.Live.create.Goals as goal

pub create-requires : goal.create-requires
create-requires g c = stands_so c.self.inside.metadata c.self.inside.holdings (pending_of c.self.inside.queue) c.self.invariant.alive.disk c.self.invariant.alive.some

pub returns-in_err-plan-clause-refused : goal.returns-in_err-plan-clause-refused
returns-in_err-plan-clause-refused g c =
    let p = err_from_is_err_and c.from_residual.result c.from_residual.ensures.1 in
    let device = c.self.inside.device in
    rw (p.1, p.2)
    (λ h. subst (λ (l : Alive _). MayRefuse (g.D.Device.image l.device) l (Create c.args.path.now c.args.attributes.now) c.in_err-plan.field-0.0) c.self.view_is
    (refused device (g.D.Device.honest device) (g.D.Device.image device) c.self.inside.queue c.self.inside.metadata c.self.inside.holdings c.self.invariant (subst (λ (l : Alive _). g.D.Device.honest l.device) (sym c.self.view_is) h)
    (Create c.args.path.now c.args.attributes.now) c.in_err-plan.field-0.0 c.in_err-plan.ensures.refused))

pub returns-in_err-plan-clause-cause : goal.returns-in_err-plan-clause-cause
returns-in_err-plan-clause-cause g c =
    let p = err_from_is_err_and c.from_residual.result c.from_residual.ensures.1 in
    rw (p.1, p.2) (subst (λ (l : Alive _). IsRefused l.kept (Create c.args.path.now c.args.attributes.now) c.in_err-plan.field-0.0) c.self.view_is c.in_err-plan.ensures.refused)

pub carry_out-requires-clause-planned : goal.carry_out-requires-clause-planned
carry_out-requires-clause-planned g c = (
  Create c.args.path.now c.args.attributes.now,
  Number c.file-number.result,
  subst (λ (l : Alive _). IsPlannedWith l.kept l.holdings [] (Create c.args.path.now c.args.attributes.now) (Number c.file-number.result) c.without_holds.result.plan (with_held (ended l.holdings Nothing) c.without_holds.result.holds.items)) c.self.view_is
      (alone c.self.inside.metadata c.self.inside.holdings (Create c.args.path.now c.args.attributes.now) (Number c.file-number.result) c.in_ok-plan.plan c.without_holds.result.plan c.without_holds.result.holds.items c.without_holds.ensures.plan c.without_holds.ensures.holds
      (subst (λ n. IsPlanned c.self.inside.metadata (Create c.args.path.now c.args.attributes.now) (Number n) c.in_ok-plan.plan) (sym c.file-number.ensures) c.in_ok-plan.ensures.planned)),
)

pub carry_out-requires-clause-holds : goal.carry_out-requires-clause-holds
carry_out-requires-clause-holds g c = few_held _ c.without_holds.result.holds.items c.without_holds.ensures.holds

pub returns-clause-done : goal.returns-clause-done
returns-clause-done g c = λ h.
    c.in_ok-carry_out.ensures.done [] (Create c.args.path.now c.args.attributes.now) (Number c.file-number.result)
    (subst (λ (l : Alive _). IsPlannedWith l.kept l.holdings [] (Create c.args.path.now c.args.attributes.now) (Number c.file-number.result) c.without_holds.result.plan (with_held (ended l.holdings Nothing) c.without_holds.result.holds.items)) c.self.view_is
    (alone c.self.inside.metadata c.self.inside.holdings (Create c.args.path.now c.args.attributes.now) (Number c.file-number.result) c.in_ok-plan.plan c.without_holds.result.plan c.without_holds.result.holds.items c.without_holds.ensures.plan c.without_holds.ensures.holds
    (subst (λ n. IsPlanned c.self.inside.metadata (Create c.args.path.now c.args.attributes.now) (Number n) c.in_ok-plan.plan) (sym c.file-number.ensures) c.in_ok-plan.ensures.planned))) h (none_seen (users_view (disk_of (g.D.Device.image c.args.self.now.device) c.args.self.now) (pending_of c.args.self.now.queue)))

pub returns-clause-sound : goal.returns-clause-sound
returns-clause-sound g c = λ h.
    c.in_ok-carry_out.ensures.sound [] (Create c.args.path.now c.args.attributes.now) (Number c.file-number.result)
    (subst (λ (l : Alive _). IsPlannedWith l.kept l.holdings [] (Create c.args.path.now c.args.attributes.now) (Number c.file-number.result) c.without_holds.result.plan (with_held (ended l.holdings Nothing) c.without_holds.result.holds.items)) c.self.view_is
    (alone c.self.inside.metadata c.self.inside.holdings (Create c.args.path.now c.args.attributes.now) (Number c.file-number.result) c.in_ok-plan.plan c.without_holds.result.plan c.without_holds.result.holds.items c.without_holds.ensures.plan c.without_holds.ensures.holds
    (subst (λ n. IsPlanned c.self.inside.metadata (Create c.args.path.now c.args.attributes.now) (Number n) c.in_ok-plan.plan) (sym c.file-number.ensures) c.in_ok-plan.ensures.planned))) h (none_seen (users_view (disk_of (g.D.Device.image c.args.self.now.device) c.args.self.now) (pending_of c.args.self.now.queue)))
