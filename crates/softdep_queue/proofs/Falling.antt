-- The entries of a queue are known by their ids, which fall.
use Rattle.std.proofs.Common.{◌≡◌, ℕ, suc, ◌<◌, Bool, true, false, ◌||◌, eqb, List, [], ◌∷◌, inl, inr, refl, sym, ap, ap₂, ◌∙◌, IsTrue, arith, eqb-true, eq-eqb}
use Rattle.std.proofs.lemmas.Bool.{both_ways, or_left, or_right, or_cases}
use Rattle.ordering.specs.Cuts.{Cell, Pending}
use Rattle.queue_model.specs.Entries.{Entry, Queue, Represents, Stand, has_id, marks, issued, new_entry}
use Rattle.queue_model.proofs.Lists.{bool_same}

abbrev pub Falls : ℕ → List Entry → Type 0
Falls n [] = Unit {0}
Falls n (e ∷ es) = (e.id < n) × Falls e.id es

pub stand_falls : (n : ℕ) (es : List Entry) (q : List Pending) → Stand n es q → Falls n es
stand_falls n [] [] s = tt
stand_falls n [] (u ∷ q) s = absurd s
stand_falls n (e ∷ es) [] s = absurd s
stand_falls n (e ∷ es) (u ∷ q) s = (s.0, stand_falls e.id es q s.1)

below : (n : ℕ) (es : List Entry) (i : ℕ) → Falls n es → IsTrue (has_id es i) → i < n
below n [] i f t = absurd (let bad : false ≡ true = t in cc)
below n (e ∷ es) i f t = elim (or_cases (eqb i e.id) (has_id es i) t) [
  | inl same ↦ let d = eqb-true i e.id same in let l = f.0 in omega (arith, d, l)
  | inr there ↦ let d = below e.id es i f.1 there in let l = f.0 in omega (arith, d, l)
]

own_id : (e : Entry) (es : List Entry) → IsTrue (has_id (e ∷ es) e.id)
own_id e es = or_left (eqb e.id e.id) (has_id es e.id) (eq-eqb e.id e.id refl)

tail_only : (n : ℕ) (e x : Entry) (es fs : List Entry) → Falls n (e ∷ es) → e.id ≡ x.id → ((i : ℕ) → has_id (e ∷ es) i ≡ has_id (x ∷ fs) i) → (i : ℕ) → IsTrue (has_id es i) → IsTrue (has_id fs i)
tail_only n e x es fs f d same i t = elim (or_cases (eqb i x.id) (has_id fs i) (sym (same i) ∙ or_right (eqb i e.id) (has_id es i) t)) [
  | inl is ↦ let low = below e.id es i f.1 t in let h = eqb-true i x.id is in absurd (omega (arith, low, h, d))
  | inr there ↦ there
]

-- entries with the same ids are marked by a set in the same way
pub same_marks : (set : ℕ → Bool) (n m : ℕ) (es fs : List Entry) → Falls n es → Falls m fs → ((i : ℕ) → has_id es i ≡ has_id fs i) → marks set es ≡ marks set fs
same_marks set n m [] [] f g same = refl
same_marks set n m [] (x ∷ fs) f g same = absurd (both_ways (has_id [] x.id) refl (same x.id ∙ own_id x fs))
same_marks set n m (e ∷ es) [] f g same = absurd (both_ways (has_id [] e.id) refl (sym (same e.id) ∙ own_id e es))
same_marks set n m (e ∷ es) (x ∷ fs) f g same =
    let low = below (suc x.id) (x ∷ fs) e.id (omega arith, g.1) (sym (same e.id) ∙ own_id e es) in
    let high = below (suc e.id) (e ∷ es) x.id (omega arith, f.1) (same x.id ∙ own_id x fs) in
    let d : e.id ≡ x.id = omega (arith, low, high) in
    ap₂ (λ b l. b ∷ l) (ap set d) (same_marks set e.id x.id es fs f.1 g.1 (λ i. bool_same (has_id es i) (has_id fs i)
    (tail_only n e x es fs f d same i) (tail_only m x e fs es g (sym d) (λ j. sym (same j)) i)))

module _ (home : Cell → ℕ) (queue : Queue) where
  -- however a queue is seen to hold its updates, a set marks the same of them
  pub marks_of : (set : ℕ → Bool) (q : List Pending) (r s : Represents home queue q) → marks set r.entries ≡ marks set s.entries
  marks_of set q r s = same_marks set queue.next queue.next r.entries s.entries (stand_falls queue.next r.entries q r.stand) (stand_falls queue.next s.entries q s.stand)
      (λ i. sym (r.pending i) ∙ s.pending i)

  -- an issue puts its own mark in front
  pub marks_issued : (set : ℕ → Bool) (u : Pending) (q : List Pending) (r : Represents home queue q) (s : Represents home (issued home u queue) (u ∷ q)) → marks set s.entries ≡ set queue.next ∷ marks set r.entries
  marks_issued set u q r s =
      same_marks set (suc queue.next) (suc queue.next) s.entries (new_entry queue u ∷ r.entries) (stand_falls (suc queue.next) s.entries (u ∷ q) s.stand) (omega arith, stand_falls queue.next r.entries q r.stand)
      (λ i. sym (s.pending i) ∙ ap (λ b. eqb i queue.next || b) (r.pending i))

-- of nothing each cut is the same
pub marks_nothing : (f g : ℕ → Bool) (n m : ℕ) (es fs : List Entry) → Stand n es [] → Stand m fs [] → marks f es ≡ marks g fs
marks_nothing f g n m [] [] s k = refl
marks_nothing f g n m [] (x ∷ fs) s k = absurd k
marks_nothing f g n m (e ∷ es) fs s k = absurd s
