-- Which of so many loose writes a power cut leaves, as far as that is tried.
use Rattle.std.specs.Prelude.{◌≡◌, ℕ, zero, suc, ◌+◌, ◌<◌, ◌≤◌, ◌/◌, ◌%◌, ◌==◌, ◌^◌, Bool, true, false, List, [], ◌∷◌, length, replicate, slice_set}

-- so many digits of a number to the base 2, the lowest first: each list of so many has its number below 2 to their count
abbrev pub digits : ℕ → ℕ → List Bool
digits zero number = []
digits (suc count) number = (number % 2 == 1) ∷ digits count (number / 2)

-- where there are many ways: none is left, all are, all but one in their order, and then whichever
pub record IsOneOfMany (loose number : ℕ) (picks : List Bool) : Type 0 where
  pub as_many : length picks ≡ loose
  pub none : number ≡ 0 → picks ≡ replicate loose false
  pub whole : number ≡ 1 → picks ≡ replicate loose true
  pub but_one : (k : ℕ) → k < loose → number ≡ k + 2 → picks ≡ slice_set (replicate loose true) k false

-- the choice of this number, where no more than that are made
pub record IsChoice (loose most number : ℕ) (picks : List Bool) : Type 0 where
  pub each : 2 ^ loose ≤ most → picks ≡ digits loose number
  pub some : most < 2 ^ loose → IsOneOfMany loose number picks
