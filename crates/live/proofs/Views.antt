-- What users see, from what is kept.
use Rattle.std.proofs.Common.{◌≡◌, ℕ, ◌&&◌, not, cond, ap}
use Rattle.model.specs.Layout.{Geometry, block_count, is_data_address}
use Rattle.model.specs.View.{View}
use Rattle.model.proofs.Sums.{sum-same}
use Rattle.machine.specs.Room.{unmarked_blocks}

pub same_unmarked : (geo : Geometry) (view other : View) → ((a : ℕ) → view.block_marked a ≡ other.block_marked a) → unmarked_blocks geo view ≡ unmarked_blocks geo other
same_unmarked geo view other same =
    sum-same (block_count geo) (λ a. cond (is_data_address geo a && not (view.block_marked a)) 1 0) (λ a. cond (is_data_address geo a && not (other.block_marked a)) 1 0)
    (λ a low. ap (λ b. cond (is_data_address geo a && not b) 1 0) (same a))
