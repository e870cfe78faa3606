-- What is known of an entry that stands in the list of a block.
use Rattle.std.proofs.Common.{◌≡◌, ℕ, ◌<◌, List, [], ◌∷◌, inl, inr, Some, sym, ap, ◌∙◌, subst, IsTrue, Contains, arith, refl, false, true, eqb, eqb-true}
use Rattle.std.proofs.lemmas.Bool.{or_cases}
use Rattle.ordering.specs.Cuts.{Cell, Pending, cell_of}
use Rattle.queue_model.specs.Entries.{Entry, has_id, Stand, Queue, Represents}
use Rattle.queue_model.proofs.Lists.{contains_head, contains_tail, contains_cases, contains_none}
use Rattle.queue_model.proofs.Listed.{at_within, at_from, at_to, has_from, one_entry, last_listed}

-- its id is below the next one, and what it waits for is older
stands : (n : ℕ) (es : List Entry) (q : List Pending) → Stand n es q → (e : Entry) → Contains es e → (e.id < n) × ((i : ℕ) → Contains e.waits i → i < e.id)
stands n [] q s e m = absurd (contains_none e m)
stands n (x ∷ es) [] s e m = absurd s
stands n (x ∷ es) (u ∷ q) s e m = elim (contains_cases x e es m) [
  | inl d ↦ (subst (λ (y : Entry). y.id < n) d s.0, subst (λ (y : Entry). (i : ℕ) → Contains y.waits i → i < y.id) d s.2.before)
  | inr older ↦ let h = stands x.id es q s.1 e older in let l = s.0 in let b = h.0 in (omega (arith, l, b), h.1)
]

entry_with : (es : List Entry) (i : ℕ) → IsTrue (has_id es i) → (e : Entry) × Contains es e × (e.id ≡ i)
entry_with [] i t = absurd (let bad : false ≡ true = t in cc)
entry_with (x ∷ es) i t = elim (or_cases (eqb i x.id) (has_id es i) t) [
  | inl same ↦ (x, contains_head x es, sym (eqb-true i x.id same))
  | inr there ↦ let h = entry_with es i there in (h.0, contains_tail x h.0 es h.1, h.2)
]

module _ (home : Cell → ℕ) (queue : Queue) (q : List Pending) (r : Represents home queue q) where
  within : (a : ℕ) (e : Entry) → Contains (queue.lists a) e → Contains r.entries e
  within a e m = at_within home a r.entries e (subst (λ l. Contains l e) (r.lists a) m)

  pub home_is : (a : ℕ) (e : Entry) → Contains (queue.lists a) e → home (cell_of e.change) ≡ a
  home_is a e m = at_from home a r.entries e (subst (λ l. Contains l e) (r.lists a) m)

  pub same_entry : (a b : ℕ) (x y : Entry) → Contains (queue.lists a) x → Contains (queue.lists b) y → x.id ≡ y.id → (x ≡ y) × (a ≡ b)
  same_entry a b x y m k e =
      let same = one_entry queue.next r.entries q r.stand x y (within a x m) (within b y k) e in
      (same, sym (home_is a x m) ∙ ap (λ (z : Entry). home (cell_of z.change)) same ∙ home_is b y k)

  pub is_pending : (a : ℕ) (e : Entry) → Contains (queue.lists a) e → IsTrue (queue.pending e.id)
  is_pending a e m = r.pending e.id ∙ has_from r.entries e (within a e m)

  pub listed : (e : Entry) → Contains r.entries e → Contains (queue.lists (home (cell_of e.change))) e
  listed e m = subst (λ l. Contains l e) (sym (r.lists (home (cell_of e.change)))) (at_to home (home (cell_of e.change)) r.entries e m refl)

  pub entry_of : (i : ℕ) → IsTrue (queue.pending i) → (e : Entry) × Contains (queue.lists (home (cell_of e.change))) e × (e.id ≡ i)
  entry_of i t = let h = entry_with r.entries i (sym (r.pending i) ∙ t) in (h.0, listed h.0 h.1, h.2)

  pub id_low : (a : ℕ) (e : Entry) → Contains (queue.lists a) e → e.id < queue.next
  id_low a e m = (stands queue.next r.entries q r.stand e (within a e m)).0

  pub waits_low : (a : ℕ) (e : Entry) (i : ℕ) → Contains (queue.lists a) e → Contains e.waits i → i < e.id
  waits_low a e i m w = (stands queue.next r.entries q r.stand e (within a e m)).1 i w

  pub last_entry : (c : Cell) (i : ℕ) → queue.last c ≡ Some i → (e : Entry) × Contains (queue.lists (home c)) e × (e.id ≡ i) × (cell_of e.change ≡ c)
  last_entry c i l =
      let h = last_listed r.entries c i (sym (r.last c) ∙ l) in
      (h.0, subst (λ d. Contains (queue.lists (home d)) h.0) h.3 (listed h.0 h.1), h.2, h.3)
