-- Each worker that was taken has a seat.
use Rattle.std.proofs.Common.{◌≡◌, ℕ, ◌+◌, ◌++◌, ◌∷◌, [], All, Some, length, slice_get, sym, ap, ◌∙◌, subst, arith, append_assoc, length-append}
use Rattle.std.proofs.lemmas.List.{length_push}
use Rattle.std.proofs.lemmas.List.Elements.{All-push}
use Rattle.claims.specs.Seats.{new_seat, Seated}
use Rattle.claims.proofs.GatherLemmas.{all_before, all_last}
use Rattle.workers.specs.declared.turns.Hand.{Hand}
use Rattle.workers.proofs.ListLemmas.{places-push}
use Rattle.workers.proofs.turns.seated.Goals as goal

pub unreachable-requires : goal.unreachable-requires
unreachable-requires g c =
    let inv = c.loop-work.invariant in
    let whole = ap (λ es. c.loop-work.yielded ++ es) (sym c.in-Some.ensures.steps.0) ∙ inv.rest in
    let lengths = length-append c.loop-work.yielded (c.in-Some.work ∷ c.next.new.self.rest.items) in
    omega (arith, ap length whole, c.in_default.ensures.cases.0, c.args.works.ok.0, inv.seats)

pub loop-work-preserved : goal.loop-work-preserved
loop-work-preserved g c =
    let inv = c.loop-work.invariant in
    let whole = ap (λ es. c.loop-work.yielded ++ es) (sym c.in-Some.ensures.steps.0) ∙ inv.rest in
    let added = c.in_ok-push.ensures.items in
    let fresh : Seated = new_seat c.args.claims.now.id c.args.claims.now.units in
    let popped : All (λ (s : Seated). s ≡ fresh) (c.pop.new.self.items ++ c.in-Some-pop.seat ∷ []) = subst (All (λ (s : Seated). s ≡ fresh)) c.in-Some-pop.ensures.items inv.seats_fresh in
    let seat : c.in-Some-pop.seat ≡ fresh = all_last (λ (s : Seated). s ≡ fresh) c.pop.new.self.items c.in-Some-pop.seat popped in
    let hand : Hand g.row.W.Denot = record { seat = c.in-Some-pop.seat; work = c.in-Some.work } in
    let hand_of : ℕ → g.row.W.Denot → Hand g.row.W.Denot = λ i work. record { seat = fresh; work = work } in
    let longer = length_push c.loop-work.yielded c.in-Some.work in
    record {
      rest = append_assoc c.loop-work.yielded (c.in-Some.work ∷ []) c.next.new.self.rest.items ∙ whole;
      count = c.in_ok-push.ensures.len ∙ ap (λ (k : ℕ). k + 1) inv.count ∙ sym longer;
      seats = omega (arith, inv.seats, longer, ap length c.in-Some-pop.ensures.items, length_push c.pop.new.self.items c.in-Some-pop.seat, c.loop-work.seats.ok.0, c.pop.new.self.ok.0);
      seats_fresh = all_before (λ (s : Seated). s ≡ fresh) c.pop.new.self.items c.in-Some-pop.seat popped;
      each = λ i work h. subst (λ hands. slice_get hands i ≡ Some (hand_of i work)) (sym added)
          (places-push hand_of c.loop-work.yielded c.loop-work.hands.items c.in-Some.work hand (sym c.loop-work.hands.ok.0 ∙ inv.count)
          (ap (λ (s : Seated). let h : Hand g.row.W.Denot = record { seat = s; work = c.in-Some.work } in h) seat) inv.each i work h);
      fresh = subst (All (λ one. one.seat ≡ fresh)) (sym added) (All-push (λ one. one.seat ≡ fresh) c.loop-work.hands.items hand inv.fresh seat);
    }
