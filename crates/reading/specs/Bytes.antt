-- The bytes of a whole file, as users see them.
use Rattle.std.specs.Prelude.{◌≡◌, ℕ, zero, suc, List, [], ◌++◌}
use Rattle.model.specs.Layout.{Geometry}
use Rattle.model.specs.Uses.{blocks_of}
use Rattle.model.specs.View.{View}
use Rattle.machine.specs.Causes.{Accepts}
use Rattle.machine.specs.Cells.{seen}
use Rattle.machine.specs.Command.{Open}
use Rattle.machine.specs.Paths.{number_at}
use Rattle.machine.specs.State.{mounted}

-- what reads of its first n blocks give, one behind the other
unfoldable pub seen_below : Geometry → View → ℕ → ℕ → List ℕ
seen_below geo view i zero = []
seen_below geo view i (suc k) = seen_below geo view i k ++ seen geo view i k

-- and of all of them
abbrev pub bytes_of : Geometry → View → ℕ → List ℕ
bytes_of geo view i = seen_below geo view i (blocks_of (view.inode i).size)

-- A file may be opened by this path, and these are its bytes.
pub record AreBytesAt (geo : Geometry) (view : View) (path : List ℕ) (read : List ℕ) : Type 0 where
  pub opens : Accepts geo (mounted view) (Open path)
  pub bytes : read ≡ bytes_of geo view (number_at geo view path)
