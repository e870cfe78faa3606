-- What the slots of directories name, by directory.
use Rattle.std.specs.Prelude.{◌≡◌, ℕ, List, [], map}
use Rattle.std.specs.Option.{unwrap_or}
use Rattle.std.specs.BTreeMap.{BTreeMap}
use Rattle.std.specs.declared.vec.Vec.{Vec}
use Rattle.std.specs.declared.alloc.Global.{Global}
use Rattle.model.specs.Layout.{Geometry}
use Rattle.model.specs.View.{View}
use Rattle.model.specs.Named.{named_from}
use Rattle.model.specs.Tables.{value_in}
use Rattle.directories.specs.Pieces.{IsTable, Numbers}

-- the directories and what they name, as a map of a program has them
abbrev pub table_of : BTreeMap ℕ (Vec ℕ Global) → List (ℕ × List ℕ)
table_of by_directory = map (λ e. (e.0, e.1.items)) by_directory.entries

-- the numbers at d, and none where d is not in the table
abbrev pub numbers_in : List (ℕ × List ℕ) → ℕ → List ℕ
numbers_in table d = unwrap_or (value_in table d) []

-- The table has the sound directories among these numbers, and at each the numbers that its good slots name from slot `first` on.
abbrev pub IsNamed : Geometry → View → ℕ → Numbers → List (ℕ × List ℕ) → Type 0
IsNamed geo view first numbers table = IsTable geo view (λ d named. named ≡ named_from geo view first d) numbers table
