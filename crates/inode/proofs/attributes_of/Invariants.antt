use Rattle.std.specs.Prelude.{◌≡◌, ◌<◌, ◌+◌, ◌*◌, ℕ, length, slice_index}
use Rattle.model.specs.View.{u32_at}
use Rattle.inode.proofs.attributes_of.Given as goal

abbrev pub invariant-loop-place : goal.invariant-loop-place
invariant-loop-place l = (length l.attributes ≡ 16) × ((k : ℕ) → k < l.place → slice_index l.attributes k ≡ u32_at l.bytes (64 + 4 * k))
