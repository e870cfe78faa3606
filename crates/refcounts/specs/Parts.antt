-- What the reachable directories among some numbers name, by the group of what is named.
use Rattle.std.specs.Prelude.{◌≡◌, ℕ, ◌/◌, ◌+◌, ◌<◌, ◌≤◌, ◌&&◌, Bool, cond, List, [], length, slice_index_or, IsTrue}
use Rattle.model.specs.Layout.{Geometry, is_number}
use Rattle.model.specs.Named.{times}
use Rattle.model.specs.Reach.{entries_in, entries_of}
use Rattle.directories.specs.Pieces.{Numbers}
use Rattle.model.specs.Uses.{is_directory_at}
use Rattle.model.specs.View.{View}
use Rattle.sets.specs.Members.{is_among}

-- the list of a group, and an empty one where there is no such group
abbrev pub numbers_at : List (List ℕ) → ℕ → List ℕ
numbers_at lists g = slice_index_or lists g []

-- Each number of these has been added to the list of its group, for each time that it stands there.
abbrev pub Grow : Geometry → List ℕ → List (List ℕ) → List (List ℕ) → Type 0
Grow geo numbers old new = (i : ℕ) → i / geo.inodes < length old
    → times i (numbers_at new (i / geo.inodes)) ≡ times i (numbers_at old (i / geo.inodes)) + times i numbers

-- whether d is a sound directory, and one of these
abbrev pub is_read : Geometry → View → List ℕ → ℕ → Bool
is_read geo view reached d = is_among reached d && is_directory_at geo view d

-- What the slots of d name has been added, if it is read.
abbrev pub Reads : Geometry → View → List ℕ → ℕ → List (List ℕ) → List (List ℕ) → Type 0
Reads geo view reached d old new = (i : ℕ) → 1 ≤ i → i / geo.inodes < length old
    → times i (numbers_at new (i / geo.inodes)) ≡ times i (numbers_at old (i / geo.inodes)) + cond (is_read geo view reached d) (entries_in geo view i d) 0

-- Each inode stands in the list of its group as often as the good slots of these directories name it, the dots among them.
abbrev pub Name : Geometry → View → (ℕ → Bool) → List (List ℕ) → Type 0
Name geo view directories lists = (i : ℕ) → IsTrue (is_number geo i) → times i (numbers_at lists (i / geo.inodes)) ≡ entries_of geo view directories i

-- what the directories name that are among these numbers, and among what is reached
abbrev pub IsPart : Geometry → View → List ℕ → Numbers → List (List ℕ) → Type 0
IsPart geo view reached numbers = Name geo view (λ d. numbers d && is_read geo view reached d)
