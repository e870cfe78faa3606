-- The blocks that an inode gives up where so many of its blocks are left.
use Rattle.std.specs.Prelude.{ℕ, Bool, not, ◌&&◌, List, [], ◌∷◌, is_some, if◌then◌else◌}
use Rattle.findings.specs.Numbers.{found_below}
use Rattle.model.specs.Layout.{Geometry}
use Rattle.model.specs.View.{View}
use Rattle.model.specs.Shape.{position_count, reaches}
use Rattle.model.specs.Uses.{claim_at}
use Rattle.machine.specs.Cells.{block_of}
use Rattle.live_states.specs.Holdings.{Holdings, is_kept_by}

-- n claims a block of this kind at position k
abbrev pub is_claimed_at : (ℕ → Bool) → Geometry → View → ℕ → ℕ → Bool
is_claimed_at which geo view n k = is_some (claim_at geo view n k) && which (block_of geo view n k)

-- and that block, if it does
abbrev pub claimed_at : (ℕ → Bool) → Geometry → View → ℕ → ℕ → List ℕ
claimed_at which geo view n k = if is_claimed_at which geo view n k then block_of geo view n k ∷ [] else []

-- and does not have that position where so many blocks are left
abbrev pub goes_at : (ℕ → Bool) → Geometry → View → ℕ → ℕ → ℕ → Bool
goes_at which geo view n left k = is_some (claim_at geo view n k) && not (reaches geo left k) && which (block_of geo view n k)

-- the blocks of this kind that go at the positions below this one, in their order
abbrev pub gone_below : (ℕ → Bool) → Geometry → View → ℕ → ℕ → ℕ → List ℕ
gone_below which geo view n left end = found_below (goes_at which geo view n left) (block_of geo view n) end

-- and at all positions, the tables the last
abbrev pub gone : (ℕ → Bool) → Geometry → View → ℕ → ℕ → List ℕ
gone which geo view n left = gone_below which geo view n left (position_count geo)

-- a block that no snapshot keeps
abbrev pub is_loose : Holdings → ℕ → Bool
is_loose holdings a = not (is_kept_by holdings a)

-- what is freed, and what a snapshot keeps, so that it is held
abbrev pub freed : Geometry → View → Holdings → ℕ → ℕ → List ℕ
freed geo view holdings n left = gone (is_loose holdings) geo view n left

abbrev pub held_back : Geometry → View → Holdings → ℕ → ℕ → List ℕ
held_back geo view holdings n left = gone (is_kept_by holdings) geo view n left
