use Rattle.std.proofs.Common.{◌≡◌, ◌∷◌, ◌++◌, ◌+◌, [], suc, Err, ap, ◌∙◌, refl, sym, subst, arith}
use Rattle.std.proofs.Math.Numerals.{add-one}
use Rattle.snapshot.specs.declared.command.Command.TheVariants.{Repair}
use Rattle.upkeep.proofs.Asking.{Asks, asks_again, asks_done, asks_last, inner_more}
use Rattle.upkeep.proofs.mending.repair_all.Goals as goal
use Rattle.upkeep.proofs.mending.repair_all.Goals.{in-Ok-ask, in-Err-AlreadyDone}

pub returns-in-Err-NoPlan-clause-repaired : goal.returns-in-Err-NoPlan-clause-repaired
returns-in-Err-NoPlan-clause-repaired g c =
    let calls = g.A.Asked.calls in
    let old = calls c.loop-place.asked in
    let place = c.loop-place.place in
    asks_last (calls c.args.asked.now) old place c.loop-place.done c.loop-place.invariant.asks (calls c.ask.new.self) c.args.places
    (c.in-Err-NoPlan.ensures.asked ∙ ap (λ r. old ++ (Repair place, Err r) ∷ []) c.in-Err-NoPlan.field-0-is)

pub returns-in-Err-NoPlan-clause-inner : goal.returns-in-Err-NoPlan-clause-inner
returns-in-Err-NoPlan-clause-inner g c =
    let calls = g.A.Asked.calls in
    inner_more (calls c.args.asked.now) (calls c.loop-place.asked) (calls c.ask.new.self) (Repair c.loop-place.place, c.ask.result) c.loop-place.invariant.inner c.ask.ensures.asked refl

pub returns-in-Err : goal.returns-in-Err
returns-in-Err g c = record {
  repaired = tt;
  inner =
      let calls = g.A.Asked.calls in
      inner_more (calls c.args.asked.now) (calls c.loop-place.asked) (calls c.ask.new.self) (Repair c.loop-place.place, c.ask.result) c.loop-place.invariant.inner c.ask.ensures.asked refl;
}

pub loop-place-preserved : goal.loop-place-preserved
loop-place-preserved g c =
    let calls = g.A.Asked.calls in
    let first = calls c.args.asked.now in
    let old = calls c.loop-place.asked in
    let new = calls c.ask.new.self in
    let place = c.loop-place.place in
    let done = c.loop-place.done in
    let asks = c.loop-place.invariant.asks in
    let inner = inner_more first old new (Repair place, c.ask.result) c.loop-place.invariant.inner c.ask.ensures.asked refl in
    elim c.match-ask.branch [
      | in-Ok-ask w ↦ record {
        asks = subst (λ d. Asks first new (place + 1) d) (sym w.done-is) (subst (λ d. Asks first new (place + 1) d) (sym (add-one done))
            (subst (λ n. Asks first new n (suc done)) (sym (add-one place))
            (asks_done first old place done asks new w.in-Ok-ask.field-0 (c.ask.ensures.asked ∙ ap (λ r. old ++ (Repair place, r) ∷ []) w.in-Ok-ask.is))));
        few = omega (arith, w.done-is, c.loop-place.invariant.few);
        inner = inner;
      }
      | in-Err-AlreadyDone w ↦ record {
        asks = subst (λ d. Asks first new (place + 1) d) (sym w.done-is) (subst (λ n. Asks first new n done) (sym (add-one place))
            (asks_again first old place done asks new (c.ask.ensures.asked ∙ ap (λ r. old ++ (Repair place, r) ∷ []) w.in-Err-AlreadyDone.is
            ∙ ap (λ r. old ++ (Repair place, Err r) ∷ []) w.in-Err-AlreadyDone.field-0-is)));
        few = omega (arith, w.done-is, c.loop-place.invariant.few);
        inner = inner;
      }
    ]
