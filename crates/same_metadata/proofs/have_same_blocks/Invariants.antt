use Rattle.std.proofs.Common.{◌≡◌, ◌<◌, ℕ}
use Rattle.frozen.specs.Kept.{kept_bytes}
use Rattle.same_metadata.proofs.have_same_blocks.Given as goal

-- the bytes of the blocks so far are the same
abbrev pub invariant-loop-address : goal.invariant-loop-address
invariant-loop-address l = (a : ℕ) → a < l.address → kept_bytes l.fn.one.blocks a ≡ kept_bytes l.fn.other.blocks a
