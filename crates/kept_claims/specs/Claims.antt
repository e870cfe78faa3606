-- Claims on metadata, and the updates that give a block its bytes.
use Rattle.std.specs.Prelude.{◌≡◌, ℕ, List, ◌⊎◌, IsTrue}
use Rattle.std.specs.List.{Contains}
use Rattle.model.specs.Layout.{Geometry}
use Rattle.model.specs.View.{View}
use Rattle.model.specs.Cells.{SetBytes}
use Rattle.model.specs.Shape.{is_table}
use Rattle.model.specs.Uses.{is_directory_at, IsClaim}
use Rattle.ordering.specs.Cuts.{Pending}

-- inode i claims block a as one of its tables, or as a block of the directory that it is
abbrev pub IsMetadataClaim : Geometry → View → ℕ → ℕ → ℕ → Type 0
IsMetadataClaim geo view i k a = IsClaim geo view i k a × (IsTrue (is_table geo k) ⊎ IsTrue (is_directory_at geo view i))

-- one of these updates gives block a bytes
abbrev pub GivesBytes : List Pending → ℕ → Type 0
GivesBytes us a = (p : Pending) × Contains us p × (bytes : List ℕ) × (p.change ≡ SetBytes a bytes)
