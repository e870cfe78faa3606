-- Stacks of numbers, linked through a table of the numbers below others.
use Rattle.std.specs.Prelude.{◌≡◌, ℕ, zero, suc, ◌<◌, ◌^◌, Bool, true, false, List, [], ◌∷◌, length, slice_index_or}
use Rattle.std.specs.List.{Contains}

-- for each stack the number on its top, and for each number the one below it, each as one more than the number, or 0
pub record Links : Type 0 where
  pub tops : List ℕ
  pub below : List ℕ

-- the numbers from a link down, of which at most so many are looked at
abbrev pub walk : List ℕ → ℕ → ℕ → List ℕ
walk below zero link = []
walk below (suc steps) zero = []
walk below (suc steps) (suc n) = n ∷ walk below steps (slice_index_or below n 0)

-- the numbers of a stack, the top first
abbrev pub stack_at : Links → ℕ → List ℕ
stack_at links k = walk links.below (length links.below) (slice_index_or links.tops k 0)

-- how many stacks there are
abbrev pub count_of : Links → ℕ
count_of links = length links.tops

-- the numbers below this one may be pushed
abbrev pub room_of : Links → ℕ
room_of links = length links.below

abbrev pub is_empty : List ℕ → Bool
is_empty [] = true
is_empty (n ∷ ns) = false

-- these are the numbers from a link down
abbrev pub IsWalk : List ℕ → ℕ → List ℕ → Type 0
IsWalk below link [] = link ≡ 0
IsWalk below link (n ∷ ns) = (link ≡ suc n) × (n < length below) × IsWalk below (slice_index_or below n 0) ns

-- no number stands twice
abbrev pub AreDistinct : List ℕ → Type 0
AreDistinct [] = Unit {0}
AreDistinct (n ∷ ns) = (Contains ns n → ⊥) × AreDistinct ns

-- Each stack ends, and no number stands twice, in one stack or in two.
pub record AreStacks (links : Links) : Type 0 where
  pub walks : (k : ℕ) → IsWalk links.below (slice_index_or links.tops k 0) (stack_at links k)
  pub distinct : (k : ℕ) → AreDistinct (stack_at links k)
  pub apart : (k l n : ℕ) → Contains (stack_at links k) n → Contains (stack_at links l) n → k ≡ l
  pub few : length links.below < 2 ^ 32
