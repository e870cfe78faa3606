-- Counts of the numbers of a list.
use Rattle.std.proofs.Common.{◌≡◌, ℕ, suc, ◌+◌, ◌<◌, Bool, true, false, not, ◌&&◌, ◌||◌, eqb, if◌then◌else◌, List, [], ◌∷◌, ◌⊎◌, inl, inr, refl, sym, ap, ◌∙◌, subst, IsTrue, IsFalse, Contains, length, filter, arith, eqb-true, eq-eqb}
use Rattle.std.proofs.lemmas.Bool.{cond-false, both_ways, and_from, not_from_false}
use Rattle.queue_model.specs.Entries.{Entry, has_id, may_go}
use Rattle.queue_model.proofs.Lists.{contains_head, contains_tail, contains_cases, contains_none, all_at, all_from}
use Rattle.softdep_queue.specs.Counts.{occurrences, count_in}

pub count_same : (f g : ℕ → Bool) → ((i : ℕ) → f i ≡ g i) → (xs : List ℕ) → count_in f xs ≡ count_in g xs
count_same f g same [] = refl
count_same f g same (x ∷ xs) =
    ap (λ b. length (if b then x ∷ filter f xs else filter f xs)) (same x) ∙ step (g x) (count_same f g same xs)
  where
    step : (b : Bool) → count_in f xs ≡ count_in g xs → length (if b then x ∷ filter f xs else filter f xs) ≡ length (if b then x ∷ filter g xs else filter g xs)
    step true h = ap suc h
    step false h = h

-- a set without one of its numbers
pub count_without : (set : ℕ → Bool) (i : ℕ) → IsTrue (set i) → (xs : List ℕ) → count_in (λ j. set j && not (eqb j i)) xs + occurrences i xs ≡ count_in set xs
count_without set i t [] = refl
count_without set i t (x ∷ xs) = step (set x) (eqb x i) refl refl (count_without set i t xs)
  where
    step : (a b : Bool) → set x ≡ a → eqb x i ≡ b → count_in (λ j. set j && not (eqb j i)) xs + occurrences i xs ≡ count_in set xs
        → length (if a && not b then x ∷ filter (λ j. set j && not (eqb j i)) xs else filter (λ j. set j && not (eqb j i)) xs) + length (if b then x ∷ filter (λ j. eqb j i) xs else filter (λ j. eqb j i) xs)
        ≡ length (if a then x ∷ filter set xs else filter set xs)
    step true true s e h = omega (arith, h)
    step true false s e h = omega (arith, h)
    step false true s e h = absurd (both_ways (set x) s (ap set (eqb-true x i e) ∙ t))
    step false false s e h = h

-- none of them
pub count_none : (set : ℕ → Bool) (xs : List ℕ) → count_in set xs ≡ 0 → (i : ℕ) → Contains xs i → IsFalse (set i)
count_none set [] z i m = absurd (contains_none i m)
count_none set (x ∷ xs) z i m = step (set x) refl z (λ z m. count_none set xs z i m) (contains_cases x i xs m)
  where
    step : (b : Bool) → set x ≡ b → length (if b then x ∷ filter set xs else filter set xs) ≡ 0 → (count_in set xs ≡ 0 → Contains xs i → IsFalse (set i)) → (x ≡ i) ⊎ Contains xs i → IsFalse (set i)
    step true s z more m = absurd (omega (arith, z))
    step false s z more (inl e) = ap set (sym e) ∙ s
    step false s z more (inr there) = more z there

pub none_counted : (set : ℕ → Bool) (xs : List ℕ) → ((i : ℕ) → Contains xs i → IsFalse (set i)) → count_in set xs ≡ 0
none_counted set [] none = refl
none_counted set (x ∷ xs) none =
    ap length (cond-false (set x) (x ∷ filter set xs) (filter set xs) (none x (contains_head x xs))) ∙ none_counted set xs (λ i m. none i (contains_tail x i xs m))

-- an entry may go exactly where nothing is due
pub may_go_of_none : (pending set : ℕ → Bool) (e : Entry) → count_in (λ i. pending i && not (set i)) e.waits ≡ 0 → IsTrue (may_go pending set e)
may_go_of_none pending set e z = all_from (λ i. not (pending i) || set i) e.waits (λ i m. step (pending i) (set i) (count_none (λ j. pending j && not (set j)) e.waits z i m))
  where
    step : (a b : Bool) → (a && not b) ≡ false → IsTrue (not a || b)
    step true true f = refl
    step true false f = absurd (let bad : true ≡ false = f in cc)
    step false b f = refl

pub none_of_may_go : (pending set : ℕ → Bool) (e : Entry) → IsTrue (may_go pending set e) → count_in (λ i. pending i && not (set i)) e.waits ≡ 0
none_of_may_go pending set e t = none_counted (λ i. pending i && not (set i)) e.waits (λ i m. step (pending i) (set i) (all_at (λ j. not (pending j) || set j) e.waits i t m))
  where
    step : (a b : Bool) → IsTrue (not a || b) → (a && not b) ≡ false
    step true true f = refl
    step true false f = absurd (let bad : false ≡ true = f in cc)
    step false b f = refl

-- one entry more is taken
pub taken_one : (pending : ℕ → Bool) (es : List Entry) (e : Entry) → IsTrue (pending e.id) → IsFalse (has_id es e.id) → (xs : List ℕ)
    → count_in (λ i. pending i && not (has_id (e ∷ es) i)) xs + occurrences e.id xs ≡ count_in (λ i. pending i && not (has_id es i)) xs
taken_one pending es e p f xs =
    ap (λ n. n + occurrences e.id xs) (count_same (λ i. pending i && not (has_id (e ∷ es) i)) (λ i. (pending i && not (has_id es i)) && not (eqb i e.id)) (λ i. step (pending i) (eqb i e.id) (has_id es i)) xs)
    ∙ count_without (λ i. pending i && not (has_id es i)) e.id (and_from (pending e.id) (not (has_id es e.id)) p (not_from_false (has_id es e.id) f)) xs
  where
    step : (a b h : Bool) → (a && not (b || h)) ≡ ((a && not h) && not b)
    step true true true = refl
    step true true false = refl
    step true false true = refl
    step true false false = refl
    step false b h = refl

-- a member occurs, and what occurs is a member
pub occurs : (i : ℕ) (xs : List ℕ) → Contains xs i → 0 < occurrences i xs
occurs i [] m = absurd (contains_none i m)
occurs i (x ∷ xs) m = step (eqb x i) refl (elim (contains_cases x i xs m) [ inl d ↦ inl d | inr there ↦ inr (occurs i xs there) ])
  where
    step : (b : Bool) → eqb x i ≡ b → (x ≡ i) ⊎ (0 < occurrences i xs) → 0 < length (if b then x ∷ filter (λ j. eqb j i) xs else filter (λ j. eqb j i) xs)
    step true e h = omega arith
    step false e (inl d) = absurd (both_ways (eqb x i) e (eq-eqb x i d))
    step false e (inr more) = more

pub occurring : (i : ℕ) (xs : List ℕ) → 0 < occurrences i xs → Contains xs i
occurring i [] some = absurd (omega (arith, some))
occurring i (x ∷ xs) some = step (eqb x i) refl some (occurring i xs)
  where
    step : (b : Bool) → eqb x i ≡ b → 0 < length (if b then x ∷ filter (λ j. eqb j i) xs else filter (λ j. eqb j i) xs) → (0 < occurrences i xs → Contains xs i) → Contains (x ∷ xs) i
    step true e h more = subst (Contains (x ∷ xs)) (eqb-true x i e) (contains_head x xs)
    step false e h more = contains_tail x i xs (more h)
