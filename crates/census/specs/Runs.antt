-- Runs of data blocks that may be given out.
use Rattle.std.specs.Prelude.{ℕ, ◌+◌, ◌<◌, ◌≤◌}
use Rattle.model.specs.Layout.{Geometry}
use Rattle.model.specs.View.{View}
use Rattle.machine.specs.Room.{IsFreeBlock}

-- n of them stand one behind the other from address a on
abbrev pub IsFreeRun : Geometry → View → ℕ → ℕ → Type 0
IsFreeRun geo view a n = (k : ℕ) → k < n → IsFreeBlock geo view (a + k)

-- So many stand so somewhere, and more do nowhere.
pub record IsLongestRun (geo : Geometry) (view : View) (n : ℕ) : Type 0 where
  pub first : ℕ
  pub free : IsFreeRun geo view first n
  pub most : (a m : ℕ) → IsFreeRun geo view a m → m ≤ n
