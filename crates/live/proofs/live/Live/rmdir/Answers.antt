use Rattle.std.proofs.Common.{◌<◌, All, [], sym, subst}
use Rattle.std.proofs.lemmas.Result.{err_from_is_err_and}
use Rattle.model.specs.Layout.{block_count}
use Rattle.ordering.specs.Cuts.{users_view}
use Rattle.machine.specs.Command.{Done, Rmdir}
use Rattle.softdep.specs.Queued.{pending_of}
use Rattle.live.specs.declared.ending.Ending.TheVariants.{Nothing}
use Rattle.live.specs.Ended.{ended}
use Rattle.live_states.specs.Holdings.{with_held}
use Rattle.live_states.specs.Planned.{IsPlannedWith, IsRefused}
use Rattle.live_states.proofs.Standing.{stands_with}
use Rattle.live.specs.Alive.{Alive, MayRefuse, disk_of}
use Rattle.live.proofs.Commands.{refused}
use Rattle.live.proofs.Quietly.{none_seen}
use Rattle.live.proofs.live.Live.rmdir.Goals as goal

pub rmdir-requires-clause-volume : goal.rmdir-requires-clause-volume
rmdir-requires-clause-volume g c = stands_with c.self.inside.metadata c.self.inside.holdings (pending_of c.self.inside.queue) c.self.invariant.alive.disk c.self.invariant.alive.some

pub returns-in_err-planned-clause-refused : goal.returns-in_err-planned-clause-refused
returns-in_err-planned-clause-refused g c =
    let p = err_from_is_err_and c.from_residual.result c.from_residual.ensures.1 in
    let device = c.self.inside.device in
    rw (p.1, p.2)
    (λ h. subst (λ (l : Alive _). MayRefuse (g.D.Device.image l.device) l (Rmdir c.args.path.now) c.in_err-planned.field-0.0) c.self.view_is
    (refused device (g.D.Device.honest device) (g.D.Device.image device) c.self.inside.queue c.self.inside.metadata c.self.inside.holdings c.self.invariant (subst (λ (l : Alive _). g.D.Device.honest l.device) (sym c.self.view_is) h)
    (Rmdir c.args.path.now) c.in_err-planned.field-0.0 c.in_err-planned.ensures.refused))

pub returns-in_err-planned-clause-cause : goal.returns-in_err-planned-clause-cause
returns-in_err-planned-clause-cause g c =
    let p = err_from_is_err_and c.from_residual.result c.from_residual.ensures.1 in
    rw (p.1, p.2) (subst (λ (l : Alive _). IsRefused l.kept (Rmdir c.args.path.now) c.in_err-planned.field-0.0) c.self.view_is c.in_err-planned.ensures.refused)

pub carry_out-requires-clause-planned : goal.carry_out-requires-clause-planned
carry_out-requires-clause-planned g c = (
  Rmdir c.args.path.now,
  Done,
  subst (λ (l : Alive _). IsPlannedWith l.kept l.holdings [] (Rmdir c.args.path.now) Done c.in_ok-planned.planned.plan (with_held (ended l.holdings Nothing) c.in_ok-planned.planned.holds.items)) c.self.view_is
      c.in_ok-planned.ensures.planned,
)

pub carry_out-requires-clause-holds : goal.carry_out-requires-clause-holds
carry_out-requires-clause-holds g c = subst (λ (l : Alive _). All (λ a. a < block_count l.kept.geometry) c.in_ok-planned.planned.holds.items) c.self.view_is c.in_ok-planned.ensures.holds

pub returns-clause-done : goal.returns-clause-done
returns-clause-done g c = λ h.
    c.in_ok-carry_out.ensures.done [] (Rmdir c.args.path.now) Done
    (subst (λ (l : Alive _). IsPlannedWith l.kept l.holdings [] (Rmdir c.args.path.now) Done c.in_ok-planned.planned.plan (with_held (ended l.holdings Nothing) c.in_ok-planned.planned.holds.items)) c.self.view_is
    c.in_ok-planned.ensures.planned) h (none_seen (users_view (disk_of (g.D.Device.image c.args.self.now.device) c.args.self.now) (pending_of c.args.self.now.queue)))

pub returns-clause-sound : goal.returns-clause-sound
returns-clause-sound g c = λ h.
    c.in_ok-carry_out.ensures.sound [] (Rmdir c.args.path.now) Done
    (subst (λ (l : Alive _). IsPlannedWith l.kept l.holdings [] (Rmdir c.args.path.now) Done c.in_ok-planned.planned.plan (with_held (ended l.holdings Nothing) c.in_ok-planned.planned.holds.items)) c.self.view_is
    c.in_ok-planned.ensures.planned) h (none_seen (users_view (disk_of (g.D.Device.image c.args.self.now.device) c.args.self.now) (pending_of c.args.self.now.queue)))
