-- Lists that rise.
use Rattle.std.proofs.Common.{ℕ, ◌+◌, ◌<◌, ◌≤◌, List, [], ◌∷◌, ◌++◌, length, refl, arith, inl, inr}
use Rattle.std.proofs.lemmas.Bool.{cases_eq}
use Rattle.claims.specs.Counting.{times}
use Rattle.claims.proofs.CountLemmas.{one_where, one_where_not, times-push}
use Rattle.workers.specs.Turns.{IsRising}

-- the first element stands in the list
pub times-here : (x : ℕ) (xs : List ℕ) → 0 < times x (x ∷ xs)
times-here x xs = let one = one_where x x refl in omega arith

pub times-there : (x y : ℕ) (xs : List ℕ) → 0 < times y xs → 0 < times y (x ∷ xs)
times-there x y xs stands = omega arith

-- with one above all
pub rising-push : (xs : List ℕ) (x : ℕ) → IsRising xs → ((y : ℕ) → 0 < times y xs → y < x) → IsRising (xs ++ x ∷ [])
rising-push [] x rising low = ((λ y stands. absurd (omega arith)), tt)
rising-push (z ∷ xs) x rising low = (
  (λ y stands. elim (cases_eq x y) [
    | inl same ↦ (let less = low z (times-here z xs) in omega arith)
    | inr differs ↦ rising.0 y (let push = times-push y xs x in let lacks = one_where_not x y differs in omega arith)
  ]),
  rising-push xs x rising.1 (λ y stands. low y (times-there z y xs stands)),
)

-- the end of such a list
pub rising-rest : (xs ys : List ℕ) → IsRising (xs ++ ys) → IsRising ys
rising-rest [] ys rising = rising
rising-rest (x ∷ xs) ys rising = rising-rest xs ys rising.1

-- as many as fit below a bound
pub rising-length : (low bound : ℕ) (xs : List ℕ) → IsRising xs → ((y : ℕ) → 0 < times y xs → (low ≤ y) × (y < bound)) → low ≤ bound → low + length xs ≤ bound
rising-length low bound [] rising within fits = omega arith
rising-length low bound (x ∷ xs) rising within fits =
    let here = within x (times-here x xs) in
    let rest = rising-length (x + 1) bound xs rising.1 (λ y stands. (let up = rising.0 y stands in (omega arith, (within y (times-there x y xs stands)).1))) (omega arith) in
    omega arith
