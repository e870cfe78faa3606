-- Marks of numbers: a list that has, for each number, whether it is marked.
use Rattle.std.specs.Prelude.{◌≡◌, ◌<◌, ◌≤◌, ℕ, Bool, true, false, List, length, slice_index_or}

-- the number is marked, and none below it is
pub record IsLeastMarked (marks : List Bool) (number : ℕ) : Type 0 where
  pub within : number < length marks
  pub marked : slice_index_or marks number false ≡ true
  pub least : (n : ℕ) → n < number → slice_index_or marks n false ≡ false

-- no number is marked
abbrev pub NothingMarked : List Bool → Type 0
NothingMarked marks = (n : ℕ) → slice_index_or marks n false ≡ false

-- the number is the least marked one from this one on, or there is none
pub record IsNextMarked (marks : List Bool) (from number : ℕ) : Type 0 where
  pub above : from ≤ number
  pub within : number < length marks
  pub marked : slice_index_or marks number false ≡ true
  pub least : (n : ℕ) → from ≤ n → n < number → slice_index_or marks n false ≡ false

abbrev pub NothingMarkedFrom : List Bool → ℕ → Type 0
NothingMarkedFrom marks from = (n : ℕ) → from ≤ n → slice_index_or marks n false ≡ false
