use Rattle.std.proofs.Common.{◌≡◌, ◌<◌, ℕ}
use Rattle.frozen.specs.Kept.{frozen_view}
use Rattle.same_metadata.proofs.have_same_block_bits.Given as goal

-- the bits of the blocks so far are the same
abbrev pub invariant-loop-address : goal.invariant-loop-address
invariant-loop-address l = (a : ℕ) → a < l.address → (frozen_view l.fn.one).block_marked a ≡ (frozen_view l.fn.other).block_marked a
