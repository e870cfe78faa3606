-- The numbers that the slots of a directory name, in order of the slots.
use Rattle.std.specs.Prelude.{ℕ, zero, suc, ◌+◌, ◌==◌, List, [], ◌∷◌, ◌++◌, nat_le, if◌then◌else◌}
use Rattle.model.specs.Layout.{Geometry}
use Rattle.model.specs.View.{View}
use Rattle.model.specs.Slots.{Slot, Absent, Empty, Good, Bad, slot}
use Rattle.model.specs.Reach.{slot_count}

-- the number that a slot names, if it is good
abbrev pub number_of : Slot → List ℕ
number_of Absent = []
number_of Empty = []
number_of (Good number name) = number ∷ []
number_of Bad = []

-- the numbers that the good slots of directory d name, from slot `first` on and below slot s
unfoldable pub named_below : Geometry → View → ℕ → ℕ → ℕ → List ℕ
named_below geo view first d zero = []
named_below geo view first d (suc s) = named_below geo view first d s ++ (if nat_le first s then number_of (slot geo view d s) else [])

-- the numbers that the good slots of directory d name from slot `first` on: 0 where the dots are among them, 2 where not
abbrev pub named_from : Geometry → View → ℕ → ℕ → List ℕ
named_from geo view first d = named_below geo view first d (slot_count geo)

-- how often i stands in a list
unfoldable pub times : ℕ → List ℕ → ℕ
times i [] = 0
times i (x ∷ xs) = (if x == i then 1 else 0) + times i xs
