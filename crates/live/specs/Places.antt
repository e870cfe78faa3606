-- The places in which the numbers of snapshots are told.
use Rattle.std.specs.Prelude.{◌≡◌, ◌<◌, ℕ, List, Option, Some, slice_get}

-- The numbers ascend, from place to place.
abbrev pub Ascend : List (Option ℕ) → Type 0
Ascend numbers = (i j m n : ℕ) → i < j → slice_get numbers i ≡ Some (Some m) → slice_get numbers j ≡ Some (Some n) → m < n
