-- The blocks of the files of snapshots, in the image that users see.
use Rattle.std.specs.Prelude.{◌≡◌, ℕ, Some, ◌⊎◌, IsTrue, IsFalse}
use Rattle.model.specs.Layout.{Geometry}
use Rattle.model.specs.View.{View}
use Rattle.model.specs.Shape.{is_table}
use Rattle.model.specs.Uses.{IsClaim}
use Rattle.machine.specs.State.{State, snapshot_at}
use Rattle.machine.specs.Files.{IsFile}

-- block a has the bytes of file i at position k
abbrev pub IsFileClaim : Geometry → View → ℕ → ℕ → ℕ → Type 0
IsFileClaim geo view i k a = IsFile geo view i × IsClaim geo view i k a × IsFalse (is_table geo k)

-- block a is held, or has bytes of a file
abbrev pub IsOfFile : Geometry → State → ℕ → Type 0
IsOfFile geo state a = IsTrue (state.held a) ⊎ ((i k : ℕ) × IsFileClaim geo state.view i k a)

-- The blocks that have the bytes of the files of a snapshot that stands have them still for users, and each is held or a file's.
pub record KeepsFiles (geo : Geometry) (state : State) : Type 0 where
  pub standing : (s : ℕ) (image : View) (i k a : ℕ) → snapshot_at state s ≡ Some image → IsFileClaim geo image i k a → IsOfFile geo state a × (state.view.bytes a ≡ image.bytes a)
