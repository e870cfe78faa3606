-- What holds of each number of a list.
use Rattle.std.proofs.Common.{ℕ, ◌<◌, List, [], ◌∷◌, Contains, All, refl, arith}
use Rattle.std.proofs.lemmas.List.Elements.{All-nil, All-cons}
use Rattle.findings.proofs.Sorted.{Contains-here, Contains-there}
use Rattle.claims.specs.Counting.{times}
use Rattle.claims.proofs.CountLemmas.{one_where}

-- what holds of each number that stands in a list
pub all_standing : (P : ℕ → Type 0) (xs : List ℕ) → ((n : ℕ) → 0 < times n xs → P n) → All P xs
all_standing P [] each = All-nil P
all_standing P (x ∷ xs) each =
    All-cons P x xs (each x (let one = one_where x x refl in omega arith)) (all_standing P xs (λ n stands. each n (let there = stands in omega arith)))

pub all_contained : (P : ℕ → Type 0) (xs : List ℕ) → ((n : ℕ) → Contains xs n → P n) → All P xs
all_contained P [] each = All-nil P
all_contained P (x ∷ xs) each = All-cons P x xs (each x (Contains-here x xs)) (all_contained P xs (λ n c. each n (Contains-there x xs n c)))
