use Rattle.std.proofs.Common.{◌≡◌, ◌<◌, ◌∙◌, Err, sym, refl, subst, arith}
use Rattle.std.proofs.Math.Numerals.{add-one}
use Rattle.std.proofs.lemmas.Result.{err_from_is_err_and}
use Rattle.machine.specs.Command.{RepairAt}
use Rattle.layout.specs.declared.refusal.Refusal.TheVariants.{Device}
use Rattle.snapshot.specs.Alive.{state_of}
use Rattle.snapshot.proofs.Blaming.{never_device, same_refusal}
use Rattle.snapshot.proofs.Refusals.{refused_so}
use Rattle.mending.specs.Repairs.{Repairs}
use Rattle.mending.proofs.Planned.{may_repair, planned_on}
use Rattle.mending.proofs.Going.{by_repairs, by_reply, went_nowhere, went_on}
use Rattle.mending.proofs.Joining.{joins_of, one_more, starts}
use Rattle.mending.proofs.repair_all.Goals as goal

pub loop-place-init : goal.loop-place-init
loop-place-init g c = record {
  device = refl;
  repaired = λ honest beside is. starts beside (g.D.Device.held c.args.volume.now.device) (g.D.Device.image c.args.volume.now.device) c.args.volume.now is;
}

pub loop-place-preserved : goal.loop-place-preserved
loop-place-preserved g c = record {
  device = c.repair.ensures.device ∙ c.loop-place.invariant.device;
  repaired = λ honest.
      let held = g.D.Device.held in
      let image = g.D.Device.image in
      let start = c.args.volume.now in
      let old = c.loop-place.volume in
      let new = c.repair.new.self in
      subst (λ n. Repairs (held start.device) (image start.device) start n (held new.device) (image new.device) new) (sym (add-one c.loop-place.place))
      (one_more (joins_of c.calls_join.ensures) (held start.device) (held old.device) (held new.device) (image start.device) (image old.device) (image new.device) start old new c.loop-place.place
      (c.loop-place.invariant.repaired (subst g.D.Device.honest c.repair.ensures.device honest)) (c.in_ok-repair.ensures.repaired honest));
}

pub returns-clause-repaired : goal.returns-clause-repaired
returns-clause-repaired g c = λ honest.
    let held = g.D.Device.held in
    let image = g.D.Device.image in
    let start = c.args.volume.now in
    let end = c.loop-place.volume in
    let count : c.loop-place.place ≡ c.args.count = omega (arith, c.loop-place-test.false, c.loop-place.auto.place-end, c.in-Ok.ensures.1) in
    subst (λ n. Repairs (held start.device) (image start.device) start n (held end.device) (image end.device) end) count (c.loop-place.invariant.repaired honest)

pub returns-in_err-repair-clause-error : goal.returns-in_err-repair-clause-error
returns-in_err-repair-clause-error g c =
    let p = err_from_is_err_and c.from_residual.result c.from_residual.ensures.1 in
    rw (p.1, p.2) (λ honest plan.
    let held = g.D.Device.held in
    let image = g.D.Device.image in
    let start = c.args.volume.now in
    let old = c.loop-place.volume in
    let new = c.repair.new.self in
    let place = c.loop-place.place in
    let low : place < c.args.count = omega (arith, c.loop-place-test.true, c.loop-place.auto.place-end, c.in-Ok.ensures.1) in
    let goes = c.loop-place.invariant.repaired (subst g.D.Device.honest c.repair.ensures.device honest) plan.beside plan.is in
    let planned = planned_on start.kept.geometry (state_of (image start.device) start plan.beside) (state_of (image old.device) old plan.beside) place c.args.count goes.run plan.is_planned in
    refused_so (held old.device) (image old.device) old (held new.device) (image new.device) new plan.beside goes.is (RepairAt place)
    (may_repair old.kept.geometry (state_of (image old.device) old plan.beside) place c.args.count planned low) tt _ (c.in_err-repair.ensures.refused honest))

pub returns-clause-went : goal.returns-clause-went
returns-clause-went g c = λ honest.
    by_repairs g.D.Device.held g.D.Device.image c.args.volume.now c.loop-place.volume c.loop-place.place (c.loop-place.invariant.repaired honest)

pub returns-in_err-repair-clause-went : goal.returns-in_err-repair-clause-went
returns-in_err-repair-clause-went g c = λ honest.
    let held = g.D.Device.held in
    let image = g.D.Device.image in
    let start = c.args.volume.now in
    let old = c.loop-place.volume in
    let new = c.repair.new.self in
    let place = c.loop-place.place in
    went_on held image start old new (by_repairs held image start old place (c.loop-place.invariant.repaired (subst g.D.Device.honest c.repair.ensures.device honest)))
    (by_reply held image old new (RepairAt place) _ refl (c.in_err-repair.ensures.refused honest))

pub returns-in_err-repair-clause-never : goal.returns-in_err-repair-clause-never
returns-in_err-repair-clause-never g c =
    let p = err_from_is_err_and c.from_residual.result c.from_residual.ensures.1 in
    let old = c.loop-place.volume in
    rw (p.1, p.2) (λ e. never_device old.kept old.holdings (RepairAt c.loop-place.place) _ c.in_err-repair.ensures.cause (same_refusal _ Device e))

pub returns-in_default-clause-went : goal.returns-in_default-clause-went
returns-in_default-clause-went g c = λ honest. went_nowhere g.D.Device.held g.D.Device.image c.args.volume.now
