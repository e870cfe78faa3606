-- A piece of a file, as users see it.
use Rattle.std.specs.Prelude.{ℕ, zero, suc, ◌+◌, ◌-◌, ◌/◌, ◌%◌, min, Bool, not, List, [], ◌++◌, take, drop, is_some, nat_lt, if◌then◌else◌}
use Rattle.model.specs.Below.{any_below}
use Rattle.model.specs.Layout.{Geometry}
use Rattle.model.specs.Uses.{blocks_of, claim_at}
use Rattle.model.specs.View.{View}
use Rattle.machine.specs.Cells.{seen}

-- what reads of n of its blocks give from block k on, one behind the other
unfoldable pub seen_from : Geometry → View → ℕ → ℕ → ℕ → List ℕ
seen_from geo view i k zero = []
seen_from geo view i k (suc n) = seen_from geo view i k n ++ seen geo view i (k + n)

-- whether one of them is not there, as in a damaged image
abbrev pub lacks_block : Geometry → View → ℕ → ℕ → ℕ → Bool
lacks_block geo view i k n = any_below n (λ j. not (is_some (claim_at geo view i (k + j))))

-- so many bytes from an offset on, which stand in so many blocks
abbrev pub piece_of : Geometry → View → ℕ → ℕ → ℕ → ℕ → List ℕ
piece_of geo view i offset bytes count = take bytes (drop (offset % 1024) (seen_from geo view i (offset / 1024) count))

-- Where the piece ends of which so many bytes from an offset on are asked for: no later than the file.
abbrev pub piece_end : View → ℕ → ℕ → ℕ → ℕ
piece_end view i offset size = min (offset + size) (view.inode i).size

-- how many blocks it reaches into: none where the file ends before
abbrev pub piece_blocks : View → ℕ → ℕ → ℕ → ℕ
piece_blocks view i offset size = if nat_lt offset (piece_end view i offset size) then blocks_of (piece_end view i offset size) - offset / 1024 else 0
