-- Sets of numbers, and marks of the numbers that are in one.
use Rattle.std.specs.Prelude.{◌≡◌, ℕ, Bool, true, false, List, slice_index_or, ◌↔◌}
use Rattle.std.specs.Ordering.{nat_cmp}
use Rattle.std.specs.BTreeSet.{contains}
use Rattle.std.specs.List.{Contains}

-- whether n is one of these numbers
abbrev pub is_among : List ℕ → ℕ → Bool
is_among numbers n = contains nat_cmp (record { keys = numbers }) n

-- A number is marked exactly where it is one of these. What has no mark is not marked.
abbrev pub AreMarks : List ℕ → List Bool → Type 0
AreMarks numbers marks = (n : ℕ) → (slice_index_or marks n false ≡ true) ↔ Contains numbers n
