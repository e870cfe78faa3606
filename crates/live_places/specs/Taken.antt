-- How many blocks may be given out below an address, and what the next one adds to them.
use Rattle.std.specs.Prelude.{◌≡◌, ℕ, ◌+◌, ◌<◌, ◌≤◌, ◌^◌, not, ◌&&◌, if◌then◌else◌}
use Rattle.model.specs.Layout.{Geometry, is_data_address}
use Rattle.model.specs.View.{View}
use Rattle.model.specs.Reach.{sum_below}
use Rattle.machine.specs.Room.{unmarked_blocks}
use Rattle.metadata.specs.Free.{IsNextBlock}

abbrev pub free_below : Geometry → View → ℕ → ℕ
free_below geo view n = sum_below n (λ a. if is_data_address geo a && not (view.block_marked a) then 1 else 0)

-- The block is the next one from an address on, and behind it there is one more to be counted.
pub record IsTaken (geo : Geometry) (view : View) (from block : ℕ) : Type 0 where
  pub next : IsNextBlock geo view from block
  pub small : block + 1 < 2 ^ 32
  pub more : free_below geo view (block + 1) ≡ free_below geo view from + 1
  pub among : free_below geo view (block + 1) ≤ unmarked_blocks geo view
