-- Lists that are joined, and sums over lists, read by place.
use Rattle.std.proofs.Common.{◌≡◌, ℕ, zero, suc, ◌+◌, ◌<◌, ◌≤◌, List, [], ◌∷◌, map, length, Contains, Some, slice_get, refl, sym, ap, subst, arith, inl, inr}
use Rattle.std.proofs.lemmas.Bool.{cases_eq, cases_lt}
use Rattle.std.proofs.lemmas.List.Elements.{Contains-append_left, Contains-append_right, Contains-append_cases}
use Rattle.std.specs.List.{flat_map}
use Rattle.findings.proofs.Sorted.{Contains-here, Contains-there, Contains-cases, Contains-none}
use Rattle.claims.specs.Counting.{times, total}
use Rattle.claims.proofs.CountLemmas.{one_where, one_where_not}

-- ---- numbers
pub contains_times : (i : ℕ) (xs : List ℕ) → Contains xs i → 0 < times i xs
contains_times i [] c = absurd (Contains-none i c)
contains_times i (x ∷ xs) c = elim (Contains-cases x xs i c) [
  | inl e ↦ (let one = one_where x i e in omega arith)
  | inr there ↦ (let rest = contains_times i xs there in omega arith)
]

pub times_contains : (i : ℕ) (xs : List ℕ) → 0 < times i xs → Contains xs i
times_contains i [] stands = absurd (omega arith)
times_contains i (x ∷ xs) stands = elim (cases_eq x i) [
  | inl e ↦ subst (λ z. Contains (x ∷ xs) z) e (Contains-here x xs)
  | inr differs ↦ Contains-there x xs i (times_contains i xs (let lacks = one_where_not x i differs in omega arith))
]

-- ---- joined lists
pub from_flat : {X : Type 0} (f : X → List ℕ) (xs : List X) (i : ℕ) → Contains (flat_map f xs) i → (x : X) × Contains xs x × Contains (f x) i
from_flat f [] i c = absurd (Contains-none i c)
from_flat f (x ∷ xs) i c = elim (Contains-append_cases (f x) (flat_map f xs) i c) [
  | inl k ↦ (x, Contains-here x xs, k)
  | inr k ↦ (let h = from_flat f xs i k in (h.0, Contains-there x xs h.0 h.1, h.2))
]

pub to_flat : {X : Type 0} (f : X → List ℕ) (xs : List X) (x : X) (i : ℕ) → Contains xs x → Contains (f x) i → Contains (flat_map f xs) i
to_flat f [] x i c k = absurd (Contains-none x c)
to_flat f (y ∷ ys) x i c k = elim (Contains-cases y ys x c) [
  | inl same ↦ Contains-append_left (f y) (flat_map f ys) i (subst (λ z. Contains (f z) i) (sym same) k)
  | inr there ↦ Contains-append_right (f y) (flat_map f ys) i (to_flat f ys x i there k)
]

-- what stands in a place is an element
pub at_contains : {X : Type 0} (xs : List X) (w : ℕ) (x : X) → slice_get xs w ≡ Some x → Contains xs x
at_contains [] w x h = cc
at_contains {X} (y ∷ ys) zero x h = let e : y ≡ x = cc in subst (λ (z : X). Contains (y ∷ ys) z) e (Contains-here y ys)
at_contains (y ∷ ys) (suc w) x h = Contains-there y ys x (at_contains ys w x h)

-- and an element stands in a place
pub contains_at : {X : Type 0} (xs : List X) (x : X) → Contains xs x → (w : ℕ) × (slice_get xs w ≡ Some x)
contains_at [] x c = absurd (Contains-none x c)
contains_at {X} (y ∷ ys) x c = elim (Contains-cases y ys x c) [
  | inl e ↦ (0, ap (λ (z : X). Some z) e)
  | inr there ↦ (let h = contains_at ys x there in (suc h.0, h.1))
]

-- ---- sums
pub total-has : {X : Type 0} (f : X → ℕ) (xs : List X) → 0 < total f xs → (w : ℕ) × (x : X) × (slice_get xs w ≡ Some x) × (0 < f x)
total-has f [] some_there = absurd (omega arith)
total-has f (x ∷ xs) some_there = elim (cases_lt 0 (f x)) [
  | inl here ↦ (0, x, refl, here)
  | inr lacks ↦ (let rest = total-has f xs (omega arith) in (suc rest.0, rest.1, rest.2, rest.3))
]

pub total-at : {X : Type 0} (f : X → ℕ) (xs : List X) (w : ℕ) (x : X) → slice_get xs w ≡ Some x → f x ≤ total f xs
total-at f [] w x h = cc
total-at f (z ∷ xs) zero x h = let e : z ≡ x = cc in let g = ap f e in omega arith
total-at f (z ∷ xs) (suc w) x h = omega (arith, total-at f xs w x h)

pub total-some : {X : Type 0} (f : X → ℕ) (xs : List X) (w : ℕ) (x : X) → slice_get xs w ≡ Some x → 0 < f x → 0 < total f xs
total-some f xs w x h stands = let at = total-at f xs w x h in omega arith

pub total-map : {X Y : Type 0} (f : Y → ℕ) (g : X → Y) (xs : List X) → total f (map g xs) ≡ total (λ x. f (g x)) xs
total-map f g [] = refl
total-map f g (x ∷ xs) = ap (λ t. f (g x) + t) (total-map f g xs)

-- a place below the end has an element
pub place-is : {X : Type 0} (xs : List X) (w : ℕ) → w < length xs → (x : X) × (slice_get xs w ≡ Some x)
place-is [] w below = absurd (omega arith)
place-is (x ∷ xs) zero below = (x, refl)
place-is (x ∷ xs) (suc w) below = place-is xs w (omega arith)
