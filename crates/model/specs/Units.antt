-- Sets of cylinder groups, which are the units of a check's work.
use Rattle.std.specs.Prelude.{ℕ, ◌≡◌, ◌/◌, ◌<◌, ◌≤◌, ◌↔◌, Bool, false, ◌||◌, ◌==◌, IsTrue}
use Rattle.std.specs.declared.ops.Range.{Range}
use Rattle.model.specs.Layout.{Geometry, is_number}

-- a set of units, by the test of its members
abbrev pub Units : Type 0
Units = ℕ → Bool

-- no unit, one unit alone, and the units of two sets
abbrev pub no_unit : Units
no_unit g = false

abbrev pub only : ℕ → Units
only unit g = g == unit

abbrev pub either : Units → Units → Units
either units others g = units g || others g

-- the set has every group of the volume
abbrev pub IsEveryGroup : Geometry → Units → Type 0
IsEveryGroup geo units = (g : ℕ) → g < geo.groups → IsTrue (units g)

-- whether an inode's record stands in one of these groups
abbrev pub stands_in : Geometry → Units → ℕ → Bool
stands_in geo units i = units (i / geo.inodes)

-- the range has the inode numbers of a group that are given out
abbrev pub AreNumbers : Geometry → ℕ → Range ℕ → Type 0
AreNumbers geo group range = (i : ℕ) → ((range.start ≤ i) × (i < range.end)) ↔ (IsTrue (is_number geo i) × (i / geo.inodes ≡ group))
