-- How many of a list are in a set, and in a set with one number more.
use Rattle.std.proofs.Common.{◌≡◌, ℕ, ◌+◌, ◌≤◌, Bool, true, false, not, ◌&&◌, ◌||◌, eqb, if◌then◌else◌, List, [], ◌∷◌, ◌++◌, inl, inr, refl, sym, ap, ap₂, ◌∙◌, subst, IsTrue, IsFalse, Contains, length, filter, arith, eq-eqb, ne_eqb}
use Rattle.std.proofs.lemmas.Bool.{cases_eq, or_right}
use Rattle.queue_model.specs.Entries.{Entry, has_id}
use Rattle.queue_model.proofs.Lists.{contains_head, contains_tail, contains_cases, contains_none}
use Rattle.softdep_queue.specs.Counts.{occurrences, count_in}

-- 1 if it is so
abbrev pub one_if : Bool → ℕ
one_if b = if b then 1 else 0

pub count_step : (set : ℕ → Bool) (x : ℕ) (xs : List ℕ) → count_in set (x ∷ xs) ≡ one_if (set x) + count_in set xs
count_step set x xs = step (set x)
  where
    step : (b : Bool) → length (if b then x ∷ filter set xs else filter set xs) ≡ one_if b + count_in set xs
    step true = omega arith
    step false = omega arith

pub count_low : (set : ℕ → Bool) (xs : List ℕ) → count_in set xs ≤ length xs
count_low set [] = omega arith
count_low set (x ∷ xs) = let s = count_step set x xs in let l = count_low set xs in let o = low (set x) in omega (arith, s, l, o)
  where
    low : (b : Bool) → one_if b ≤ 1
    low true = omega arith
    low false = omega arith

-- sets that agree on a list have as many of it
pub count_same : (set set' : ℕ → Bool) (xs : List ℕ) → ((i : ℕ) → Contains xs i → set i ≡ set' i) → count_in set xs ≡ count_in set' xs
count_same set set' [] h = refl
count_same set set' (x ∷ xs) h =
    count_step set x xs ∙ ap₂ (λ b n. one_if b + n) (h x (contains_head x xs)) (count_same set set' xs (λ i m. h i (contains_tail x i xs m))) ∙ sym (count_step set' x xs)

-- of a list that has none of a set no number is in the set
pub count_none : (set : ℕ → Bool) (xs : List ℕ) → count_in set xs ≡ 0 → (i : ℕ) → Contains xs i → IsFalse (set i)
count_none set [] z i m = absurd (contains_none i m)
count_none set (x ∷ xs) z i m =
    let s = count_step set x xs in
    elim (contains_cases x i xs m) [
      | inl d ↦ subst (λ j. IsFalse (set j)) d (not_one (set x) (omega (arith, s, z)))
      | inr there ↦ count_none set xs (omega (arith, s, z)) i there
    ]
  where
    not_one : (b : Bool) → one_if b ≡ 0 → IsFalse b
    not_one false z = refl
    not_one true z = absurd (omega (arith, z))

-- a set with one number more has that number's occurrences more
pub count_more : (set set' : ℕ → Bool) (i : ℕ) (xs : List ℕ) → IsFalse (set i) → IsTrue (set' i) → ((j : ℕ) → (j ≡ i → ⊥) → set j ≡ set' j) → count_in set xs + occurrences i xs ≡ count_in set' xs
count_more set set' i [] f t same = omega arith
count_more set set' i (x ∷ xs) f t same =
    let rest = count_more set set' i xs f t same in
    let a = count_step set x xs in
    let b = count_step set' x xs in
    let o = count_step (λ j. eqb j i) x xs in
    elim (cases_eq x i) [
      | inl d ↦
          let out : one_if (set x) ≡ 0 = ap (λ j. one_if (set j)) d ∙ ap one_if f in
          let within : one_if (set' x) ≡ 1 = ap (λ j. one_if (set' j)) d ∙ ap one_if t in
          let one : one_if (eqb x i) ≡ 1 = ap one_if (eq-eqb x i d) in
          omega (arith, rest, a, b, o, out, within, one)
      | inr d ↦
          let both : one_if (set x) ≡ one_if (set' x) = ap one_if (same x d) in
          let none : one_if (eqb x i) ≡ 0 = ap one_if (ne_eqb x i d) in
          omega (arith, rest, a, b, o, both, none)
    ]

-- ---- the ids of entries

pub has_append : (es fs : List Entry) (i : ℕ) → has_id (es ++ fs) i ≡ has_id es i || has_id fs i
has_append [] fs i = refl
has_append (e ∷ es) fs i = ap (λ b. eqb i e.id || b) (has_append es fs i) ∙ sym (assoc (eqb i e.id) (has_id es i) (has_id fs i))
  where
    assoc : (x y z : Bool) → ((x || y) || z) ≡ (x || (y || z))
    assoc true y z = refl
    assoc false y z = refl

-- one pending id more is not among these
pub count_given : (pending : ℕ → Bool) (es : List Entry) (e : Entry) (xs : List ℕ) → IsTrue (pending e.id) → IsFalse (has_id es e.id)
    → count_in (λ i. pending i && not (has_id (es ++ e ∷ []) i)) xs + occurrences e.id xs ≡ count_in (λ i. pending i && not (has_id es i)) xs
count_given pending es e xs p f = count_more (λ i. pending i && not (has_id (es ++ e ∷ []) i)) (λ i. pending i && not (has_id es i)) e.id xs
    (ap (λ b. pending e.id && not b) (has_append es (e ∷ []) e.id ∙ or_right (has_id es e.id) (eqb e.id e.id || false) (ap (λ b. b || false) (eq-eqb e.id e.id refl))) ∙ never (pending e.id))
    (ap₂ (λ x y. x && not y) p f)
    (λ j d. ap (λ b. pending j && not b) (has_append es (e ∷ []) j ∙ ap (λ b. has_id es j || (b || false)) (ne_eqb j e.id d) ∙ unless (has_id es j)))
  where
    never : (b : Bool) → (b && false) ≡ false
    never true = refl
    never false = refl

    unless : (b : Bool) → (b || false) ≡ b
    unless true = refl
    unless false = refl
