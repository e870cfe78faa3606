-- One worker has done all units, in their order.
use Rattle.std.proofs.Common.{◌≡◌, ℕ, ◌+◌, ◌∷◌, [], ◌++◌, List, length, sym, ap, ◌∙◌, subst, arith, refl}
use Rattle.std.proofs.lemmas.Fn.{FoldsTo-push}
use Rattle.std.specs.List.{enumerate_from}
use Rattle.workers.specs.Turns.{Runs}
use Rattle.workers.proofs.ListLemmas.{enumerate_from-push}
use Rattle.workers.proofs.TurnLemmas.{alone_done}
use Rattle.workers.proofs.in_turn.Goals as goal

pub loop-unit-init : goal.loop-unit-init
loop-unit-init g c = record {
  count = c.new-parts.ensures.len;
  runs = subst (λ (ps : List g.row.W-Part.Denot). Runs g.W.Work.gives c.args.work (enumerate_from 0 ps) c.args.work) (sym c.new-parts.ensures.items) refl;
}

pub loop-unit-preserved : goal.loop-unit-preserved
loop-unit-preserved g c =
    let inv = c.loop-unit.invariant in
    let part = c.in_ok-part.field-0 in
    let parts = c.loop-unit.parts.items in
    let place : 0 + length parts ≡ c.loop-unit.unit = omega (arith, inv.count, c.loop-unit.parts.ok.0) in
    let longer = FoldsTo-push (λ worker call next. g.W.Work.gives worker call.0 call.1 next) c.args.work (enumerate_from 0 parts) c.loop-unit.work (c.loop-unit.unit, part) c.part.new.self inv.runs c.in_ok-part.ensures.part in
    record {
      count = c.in_ok-push.ensures.len ∙ ap (λ (k : ℕ). k + 1) inv.count;
      runs = subst (λ (calls : List (ℕ × g.row.W-Part.Denot)). Runs g.W.Work.gives c.args.work calls c.part.new.self)
          (sym (ap (enumerate_from 0) c.in_ok-push.ensures.items ∙ enumerate_from-push 0 parts part ∙ ap (λ (i : ℕ). enumerate_from 0 parts ++ (i, part) ∷ []) place)) longer;
    }

pub returns-clause-done : goal.returns-clause-done
returns-clause-done g c =
    alone_done g.W.Work.gives c.args.units c.args.work c.loop-unit.work c.loop-unit.parts.items (omega (arith, c.loop-unit.invariant.count, c.loop-unit.parts.ok.0, c.loop-unit-test.false, c.loop-unit.auto.unit-end)) c.loop-unit.invariant.runs
