-- The turns that were taken are apart.
use Rattle.std.proofs.Common.{◌≡◌, ℕ, ◌++◌, ◌∷◌, [], Result, Some, Ok, length, slice_get, sym, ap, ◌∙◌, subst, append_assoc}
use Rattle.std.specs.declared.collections.VecDeque.{VecDeque}
use Rattle.std.proofs.Common.{Global}
use Rattle.layout.specs.declared.refusal.Refusal.{Refusal}
use Rattle.claims.specs.Seats.{Seated}
use Rattle.workers.specs.declared.turns.Turns.{Turns}
use Rattle.workers.proofs.ListLemmas.{one_more, triples-push}
use Rattle.workers.proofs.merging.settled.Goals as goal

pub loop-turn-preserved : goal.loop-turn-preserved
loop-turn-preserved g c =
    let inv = c.loop-turn.invariant in
    let whole = ap (λ es. c.loop-turn.yielded ++ es) (sym c.in-Some.ensures.steps.0) ∙ inv.rest in
    let turn_of : VecDeque (ℕ × g.row.P.Denot) Global → Seated → g.row.W.Denot → Result (Turns g.row.W.Denot g.row.P.Denot) Refusal = λ list seat work. Ok (record { seat = seat; work = work; calls = list }) in
    let lists = sym c.loop-turn.apart.lists.ok.0 ∙ inv.lists in
    let seats = sym c.loop-turn.apart.seats.ok.0 ∙ inv.seats in
    let works = sym c.loop-turn.apart.works.ok.0 ∙ inv.works in
    record {
      rest = append_assoc c.loop-turn.yielded (c.in-Some.turn ∷ []) c.next.new.self.rest.items ∙ whole;
      lists = c.add.new.self.lists.ok.0 ∙ ap length c.in_ok-add.ensures.lists ∙ one_more c.loop-turn.apart.lists.items _ c.loop-turn.yielded c.in-Some.turn lists;
      seats = c.add.new.self.seats.ok.0 ∙ ap length c.in_ok-add.ensures.seats ∙ one_more c.loop-turn.apart.seats.items _ c.loop-turn.yielded c.in-Some.turn seats;
      works = c.add.new.self.works.ok.0 ∙ ap length c.in_ok-add.ensures.works ∙ one_more c.loop-turn.apart.works.items _ c.loop-turn.yielded c.in-Some.turn works;
      each = λ i list seat work h k m.
          triples-push turn_of c.loop-turn.apart.lists.items c.loop-turn.apart.seats.items c.loop-turn.apart.works.items c.loop-turn.yielded _ _ _ c.in-Some.turn
          lists seats works c.in_ok-turn.was
          inv.each i list seat work (subst (λ lists. slice_get lists i ≡ Some list) c.in_ok-add.ensures.lists h)
          (subst (λ seats. slice_get seats i ≡ Some seat) c.in_ok-add.ensures.seats k) (subst (λ works. slice_get works i ≡ Some work) c.in_ok-add.ensures.works m);
    }
