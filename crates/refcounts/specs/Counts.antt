-- How many entries name each inode of a cylinder group, by its place in the group.
use Rattle.std.specs.Prelude.{◌≡◌, ℕ, ◌+◌, ◌/◌, ◌%◌, ◌≤◌, min, ◌==◌, List, length, slice_index, if◌then◌else◌, IsTrue}
use Rattle.model.specs.Layout.{Geometry, is_number}
use Rattle.model.specs.Named.{times}
use Rattle.model.specs.Reach.{HasEntries}
use Rattle.model.specs.View.{View}

-- the greatest count that there is room for
abbrev pub most : ℕ
most = 18446744073709551615

-- the count at a place, and none past the end
abbrev pub count_at : List ℕ → ℕ → ℕ
count_at counts k = slice_index counts k

-- no count is above the most
abbrev pub AreCounts : List ℕ → Type 0
AreCounts counts = (k : ℕ) → count_at counts k ≤ most

-- The count of this number has grown by one, if it is of group g and as far as there is room, and the others stay.
abbrev pub CountsOne : Geometry → ℕ → ℕ → List ℕ → List ℕ → Type 0
CountsOne geo g number old new = (i : ℕ) → i / geo.inodes ≡ g
    → count_at new (i % geo.inodes) ≡ min (count_at old (i % geo.inodes) + (if number == i then 1 else 0)) most

-- Each count of group g has grown by how often its number stands in the list, as far as there is room.
abbrev pub Counted : Geometry → ℕ → List ℕ → List ℕ → List ℕ → Type 0
Counted geo g numbers old new = AreCounts old → (i : ℕ) → i / geo.inodes ≡ g
    → count_at new (i % geo.inodes) ≡ min (count_at old (i % geo.inodes) + times i numbers) most

-- There is a place for each inode of group g, and the count there is how many entries the inode has.
pub record AreEntries (geo : Geometry) (view : View) (g : ℕ) (counts : List ℕ) : Type 0 where
  pub places : length counts ≡ geo.inodes
  pub counted : (i : ℕ) → IsTrue (is_number geo i) → i / geo.inodes ≡ g → HasEntries geo view i (count_at counts (i % geo.inodes))
