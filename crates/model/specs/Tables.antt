-- Tables by number that have a value for each sound directory of some cylinder groups.
use Rattle.std.specs.Prelude.{◌≡◌, ℕ, Bool, ◌&&◌, List, Option, Some, IsTrue, IsSome}
use Rattle.std.specs.BTreeMap.{is_at}
use Rattle.std.specs.List.Sorted.{IsStrictlySortedBy}
use Rattle.std.specs.Map.{keys_of, lookup}
use Rattle.std.specs.Ordering.{nat_cmp}
use Rattle.model.specs.Layout.{Geometry}
use Rattle.model.specs.View.{View}
use Rattle.model.specs.Uses.{is_directory_at}
use Rattle.model.specs.Units.{Units, stands_in}

-- the value of a table at a number
abbrev pub value_in : {V : Type 0} → List (ℕ × V) → ℕ → Option V
value_in table d = lookup (is_at (nat_cmp d)) table

-- whether the number is that of a sound directory whose record stands in one of these groups
abbrev pub is_directory_in : Geometry → View → Units → ℕ → Bool
is_directory_in geo view units d = is_directory_at geo view d && stands_in geo units d

-- In order of their numbers, each sound directory of these groups, and nothing else, has a value, and Is says of each what it is.
pub record IsTable {V : Type 0} (geo : Geometry) (view : View) (Is : ℕ → V → Type 0) (units : Units) (table : List (ℕ × V)) : Type 0 where
  pub in_order : IsStrictlySortedBy nat_cmp (keys_of table)
  pub each : (d : ℕ) (value : V) → value_in table d ≡ Some value → IsTrue (is_directory_in geo view units d) × Is d value
  pub all : (d : ℕ) → IsTrue (is_directory_in geo view units d) → IsSome (value_in table d)

-- In order of its numbers, the new table has this value at d, and at each other number what the old one has.
pub record Puts {V : Type 0} (d : ℕ) (value : V) (old new : List (ℕ × V)) : Type 0 where
  pub in_order : IsStrictlySortedBy nat_cmp (keys_of new)
  pub here : value_in new d ≡ Some value
  pub others : (q : ℕ) → (q ≡ d → ⊥) → value_in new q ≡ value_in old q
