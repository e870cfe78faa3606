-- One more update is struck out.
use Rattle.std.proofs.Common.{◌≡◌, ℕ, suc, ◌<◌, Bool, true, false, ◌||◌, eqb, if◌then◌else◌, List, [], ◌∷◌, ◌++◌, ◌⊎◌, inl, inr, Option, Some, None, refl, sym, ap, ap₂, ◌∙◌, subst, IsTrue, IsFalse, Contains, length, arith, slice_index_or, slice_set, get_or-set_same, get_or-set_other, eq-eqb, ne_eqb}
use Rattle.std.proofs.lemmas.Bool.{cases_eq, cases_Bool, cond-true, cond-false, both_ways}
use Rattle.std.proofs.lemmas.List.{length-set}
use Rattle.model.specs.Layout.{Geometry}
use Rattle.ordering.specs.Cuts.{Cell, Pending, cell_of}
use Rattle.queue_model.specs.Blocks.{home_of}
use Rattle.queue_model.specs.Entries.{Entry, Queue, has_id, unless}
use Rattle.queue_model.proofs.Standing.{same_entry, last_entry, id_low}
use Rattle.updates.specs.Places.{IsCell, place_of}
use Rattle.softdep_queue.specs.declared.table.Node.{Node}
use Rattle.softdep_queue.specs.declared.table.Table.{Table}
use Rattle.softdep_queue.specs.Counts.{code}
use Rattle.softdep_queue.specs.Ties.{Ties, node_at}
use Rattle.softdep_queue.specs.Retiring.{IsStruck, AreStruck}
use Rattle.softdep_queue.proofs.Released.{has_push}

pub none_struck : (geo : Geometry) (t : Table) (queue : Queue) (q : List Pending) (due : ℕ → Entry → ℕ) → Ties geo t queue q due → AreStruck geo t t queue []
none_struck geo t queue q due ties = record {
  count = refl;
  nodes = λ i f. refl;
  gone = λ i t. absurd (let bad : false ≡ true = t in cc);
  places = refl;
  latest = λ c is. ties.latest c is ∙ ap code (sym (step (queue.last c)));
  chains = refl;
  ready = refl;
  taken = refl;
  pending = refl;
}
  where
    step : (o : Option ℕ) → unless (has_id []) o ≡ o
    step None = refl
    step (Some i) = refl

module _ (geo : Geometry) (places_apart : (c d : Cell) → IsCell geo c → IsCell geo d → place_of geo c ≡ place_of geo d → c ≡ d) (t t1 t2 : Table) (queue : Queue) (q : List Pending) (due : ℕ → Entry → ℕ) (ties : Ties geo t queue q due)
    (a : ℕ) (e : Entry) (listed : Contains (queue.lists a) e) (done : List Entry) (before : AreStruck geo t t1 queue done) (fresh : IsFalse (has_id done e.id)) (low : place_of geo (cell_of e.change) < length t1.latest.items)
    (one : IsStruck geo t1 t2 e.id (cell_of e.change)) where
  abbrev here : Cell
  here = cell_of e.change

  cell : IsCell geo (cell_of e.change)
  cell = (ties.node a e listed).cell

  -- the last one of another cell is another one
  other_last : (c : Cell) (i : ℕ) → queue.last c ≡ Some i → i ≡ e.id → c ≡ cell_of e.change
  other_last c i last same =
      let l = last_entry (home_of geo) queue q ties.represents c i last in
      let s = same_entry (home_of geo) queue q ties.represents (home_of geo c) a l.0 e l.1 listed (l.2 ∙ same) in
      sym l.3 ∙ ap (λ (x : Entry). cell_of x.change) s.0

  pushed : (i : ℕ) → has_id (done ++ e ∷ []) i ≡ (eqb i e.id || has_id done i)
  pushed i = has_push done e i

  -- what is the last one then, if it is not this one
  stays : (o : Option ℕ) → ((i : ℕ) → o ≡ Some i → IsFalse (has_id done i) → (i ≡ e.id → ⊥)) → unless (has_id (done ++ e ∷ [])) o ≡ unless (has_id done) o
  stays None h = refl
  stays (Some i) h = elim (cases_Bool (has_id done i)) [
    | inl t ↦ cond-true (has_id (done ++ e ∷ []) i) None (Some i) (pushed i ∙ ap (λ b. eqb i e.id || b) t ∙ always (eqb i e.id)) ∙ sym (cond-true (has_id done i) None (Some i) t)
    | inr f ↦ cond-false (has_id (done ++ e ∷ []) i) None (Some i) (pushed i ∙ ap₂ (λ x y. x || y) (ne_eqb i e.id (h i refl f)) f) ∙ sym (cond-false (has_id done i) None (Some i) f)
  ]
    where
      always : (x : Bool) → (x || true) ≡ true
      always true = refl
      always false = refl

  gone : unless (has_id (done ++ e ∷ [])) (Some e.id) ≡ None
  gone = cond-true (has_id (done ++ e ∷ []) e.id) None (Some e.id) (pushed e.id ∙ ap (λ b. b || has_id done e.id) (eq-eqb e.id e.id refl))

  latest : (c : Cell) → IsCell geo c → slice_index_or t2.latest.items (place_of geo c) 0 ≡ code (unless (has_id (done ++ e ∷ [])) (queue.last c))
  latest c is = elim (cases_eq (place_of geo c) (place_of geo here)) [
    | inl d ↦ at_here (places_apart c here is cell d)
    | inr d ↦ ap (λ l. slice_index_or l (place_of geo c) 0) one.latest ∙ other d (eqb (slice_index_or t1.latest.items (place_of geo here) 0) (suc e.id)) ∙ before.latest c is
        ∙ ap code (sym (stays (queue.last c) (λ i last f same. d (ap (place_of geo) (other_last c i last same)))))
  ]
    where
      other : (place_of geo c ≡ place_of geo here → ⊥) → (b : Bool) → slice_index_or (if b then slice_set t1.latest.items (place_of geo here) 0 else t1.latest.items) (place_of geo c) 0 ≡ slice_index_or t1.latest.items (place_of geo c) 0
      other d true = get_or-set_other t1.latest.items (place_of geo here) (place_of geo c) 0 0 d
      other d false = refl

      at_here : c ≡ here → slice_index_or t2.latest.items (place_of geo c) 0 ≡ code (unless (has_id (done ++ e ∷ [])) (queue.last c))
      at_here same = subst (λ k. slice_index_or t2.latest.items (place_of geo k) 0 ≡ code (unless (has_id (done ++ e ∷ [])) (queue.last k))) (sym same)
          (ap (λ l. slice_index_or l (place_of geo here) 0) one.latest ∙ value (cases_eq (slice_index_or t1.latest.items (place_of geo here) 0) (suc e.id)))
        where
          was : slice_index_or t1.latest.items (place_of geo here) 0 ≡ code (unless (has_id done) (queue.last here))
          was = before.latest here cell

          -- it was the last one
          last_is : (o : Option ℕ) → code (unless (has_id done) o) ≡ suc e.id → unless (has_id (done ++ e ∷ [])) o ≡ None
          last_is None z = refl
          last_is (Some i) z = elim (cases_Bool (has_id done i)) [
            | inl t ↦ absurd (let w : code None ≡ suc e.id = ap code (sym (cond-true (has_id done i) None (Some i) t)) ∙ z in omega (arith, w))
            | inr f ↦ let w : suc i ≡ suc e.id = ap code (sym (cond-false (has_id done i) None (Some i) f)) ∙ z in
                let d : i ≡ e.id = omega (arith, w) in ap (λ j. unless (has_id (done ++ e ∷ [])) (Some j)) d ∙ gone
          ]

          not_last : (o : Option ℕ) → (code (unless (has_id done) o) ≡ suc e.id → ⊥) → unless (has_id (done ++ e ∷ [])) o ≡ unless (has_id done) o
          not_last o differs = stays o (λ i last f same. differs (ap (λ x. code (unless (has_id done) x)) last ∙ ap code (cond-false (has_id done i) None (Some i) f) ∙ ap suc same))

          value : (slice_index_or t1.latest.items (place_of geo here) 0 ≡ suc e.id) ⊎ (slice_index_or t1.latest.items (place_of geo here) 0 ≡ suc e.id → ⊥)
              → slice_index_or (if eqb (slice_index_or t1.latest.items (place_of geo here) 0) (suc e.id) then slice_set t1.latest.items (place_of geo here) 0 else t1.latest.items) (place_of geo here) 0 ≡ code (unless (has_id (done ++ e ∷ [])) (queue.last here))
          value (inl z) =
              ap (λ l. slice_index_or l (place_of geo here) 0) (cond-true (eqb (slice_index_or t1.latest.items (place_of geo here) 0) (suc e.id)) (slice_set t1.latest.items (place_of geo here) 0) t1.latest.items (eq-eqb (slice_index_or t1.latest.items (place_of geo here) 0) (suc e.id) z))
              ∙ get_or-set_same t1.latest.items (place_of geo here) 0 0 low ∙ ap code (sym (last_is (queue.last here) (sym was ∙ z)))
          value (inr d) =
              ap (λ l. slice_index_or l (place_of geo here) 0) (cond-false (eqb (slice_index_or t1.latest.items (place_of geo here) 0) (suc e.id)) (slice_set t1.latest.items (place_of geo here) 0) t1.latest.items (ne_eqb (slice_index_or t1.latest.items (place_of geo here) 0) (suc e.id) d))
              ∙ was ∙ ap code (sym (not_last (queue.last here) (λ z. d (was ∙ z))))

  pub one_struck : AreStruck geo t t2 queue (done ++ e ∷ [])
  one_struck = record {
    count = ap length one.nodes ∙ length-set t1.nodes.items e.id (record (node_at t1.nodes.items e.id) { update = None }) ∙ before.count;
    nodes = λ i f. node i f;
    gone = gone_now;
    places = ap length one.latest ∙ long (eqb (slice_index_or t1.latest.items (place_of geo here) 0) (suc e.id)) ∙ before.places;
    latest = latest;
    chains = one.chains ∙ before.chains;
    ready = one.ready ∙ before.ready;
    taken = one.taken ∙ before.taken;
    pending = one.pending ∙ before.pending;
  }
    where
      long : (b : Bool) → length (if b then slice_set t1.latest.items (place_of geo here) 0 else t1.latest.items) ≡ length t1.latest.items
      long true = length-set t1.latest.items (place_of geo here) 0
      long false = refl

      gone_now : (i : ℕ) → IsTrue (has_id (done ++ e ∷ []) i) → (node_at t2.nodes.items i).update ≡ None
      gone_now i t = elim (cases_eq i e.id) [
        | inl d ↦
            let low = id_low (home_of geo) queue q ties.represents a e listed in
            let next = ties.next in
            let count = before.count in
            ap (λ k. (node_at t2.nodes.items k).update) d ∙ ap (λ l. (node_at l e.id).update) one.nodes
            ∙ ap (λ (x : Node). x.update) (get_or-set_same t1.nodes.items e.id (record (node_at t1.nodes.items e.id) { update = None }) (node_at [] 0) (omega (arith, low, next, count)))
        | inr d ↦
            ap (λ l. (node_at l i).update) one.nodes ∙ ap (λ (x : Node). x.update) (get_or-set_other t1.nodes.items e.id i (record (node_at t1.nodes.items e.id) { update = None }) (node_at [] 0) d)
            ∙ before.gone i (ap (λ b. b || has_id done i) (sym (ne_eqb i e.id d)) ∙ sym (pushed i) ∙ t)
      ]

      node : (i : ℕ) → IsFalse (has_id (done ++ e ∷ []) i) → node_at t2.nodes.items i ≡ node_at t.nodes.items i
      node i f = elim (cases_eq i e.id) [
        | inl d ↦ absurd (both_ways (has_id (done ++ e ∷ []) i) f (pushed i ∙ ap (λ b. b || has_id done i) (eq-eqb i e.id d)))
        | inr d ↦ ap (λ l. node_at l i) one.nodes ∙ get_or-set_other t1.nodes.items e.id i (record (node_at t1.nodes.items e.id) { update = None }) (node_at [] 0) d
            ∙ before.nodes i (ap (λ b. b || has_id done i) (sym (ne_eqb i e.id d)) ∙ sym (pushed i) ∙ f)
      ]
