-- A worker has done the units that it drew.
use Rattle.std.proofs.Common.{ℕ, ◌<◌, ◌∷◌, [], ◌++◌, length, sym, ap, ◌∙◌, subst, arith}
use Rattle.std.proofs.lemmas.List.{length_push}
use Rattle.std.proofs.lemmas.Fn.{FoldsTo-push}
use Rattle.claims.specs.Counting.{times}
use Rattle.claims.specs.Seats.{Seated}
use Rattle.workers.specs.Turns.{Runs, units_in, IsRising}
use Rattle.workers.proofs.TurnLemmas.{units_push, more_rising, more_low, more_fit}
use Rattle.workers.proofs.turns.take_turns.Goals as goal

pub loop-unit-smaller : goal.loop-unit-smaller
loop-unit-smaller g c =
    let inv = c.loop-unit.invariant in
    let drew = c.in-Some.ensures.unit in
    let fits = more_fit c.loop-unit.calls.items c.in-Some.unit c.in_ok-part.field-0 c.args.claims.now.units inv.rising inv.low (subst (λ (k : ℕ). c.in-Some.unit < k) inv.units drew.1)
    (λ u stands. drew.2 u (subst (λ us. 0 < times u us) (sym inv.drawn) stands)) in
    let long = ap length c.in_ok-push_back.ensures.items ∙ length_push c.loop-unit.calls.items (c.in-Some.unit, c.in_ok-part.field-0) in
    omega arith

pub loop-unit-preserved : goal.loop-unit-preserved
loop-unit-preserved g c =
    let inv = c.loop-unit.invariant in
    let drew = c.in-Some.ensures.unit in
    let part = c.in_ok-part.field-0 in
    let calls = c.loop-unit.calls.items in
    let below : c.in-Some.unit < c.args.claims.now.units = subst (λ (k : ℕ). c.in-Some.unit < k) inv.units drew.1 in
    let above : (u : ℕ) → 0 < times u (units_in calls) → u < c.in-Some.unit = λ u stands. drew.2 u (subst (λ us. 0 < times u us) (sym inv.drawn) stands) in
    let items = sym c.in_ok-push_back.ensures.items in
    record {
      own = ap (λ (s : Seated). s.of) drew.0 ∙ inv.own;
      units = ap (λ (s : Seated). s.units) drew.0 ∙ inv.units;
      drawn = ap (λ (s : Seated). s.drawn) drew.0 ∙ ap (λ us. us ++ c.in-Some.unit ∷ []) inv.drawn ∙ sym (units_push calls c.in-Some.unit part c.args.claims.now.units inv.rising inv.low below above) ∙ ap units_in items;
      rising = subst (λ cs. IsRising (units_in cs)) items (more_rising calls c.in-Some.unit part c.args.claims.now.units inv.rising inv.low below above);
      low = subst (λ cs. (u : ℕ) → 0 < times u (units_in cs) → u < c.args.claims.now.units) items (more_low calls c.in-Some.unit part c.args.claims.now.units inv.rising inv.low below above);
      runs = subst (λ cs. Runs g.W.Work.gives c.args.hand.work cs c.part.new.self) items
          (FoldsTo-push (λ worker call next. g.W.Work.gives worker call.0 call.1 next) c.args.hand.work calls c.loop-unit.work (c.in-Some.unit, part) c.part.new.self inv.runs c.in_ok-part.ensures.part);
    }
