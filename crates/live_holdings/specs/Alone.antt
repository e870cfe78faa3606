-- Held blocks that none of some snapshots keeps.
use Rattle.std.specs.Prelude.{ℕ, Bool, ◌&&◌, false, not, List, slice_index_or}
use Rattle.findings.specs.Numbers.{found_below}
use Rattle.frozen.specs.Kept.{Kept}
use Rattle.machine.specs.Standing.{Standing}
use Rattle.live_states.specs.Holdings.{kept_by}

-- the marked numbers below n that none of these keeps, the least first
abbrev pub alone_below : List Bool → List (Standing Kept) → ℕ → List ℕ
alone_below marks standing n = found_below (λ a. slice_index_or marks a false && not (kept_by standing a)) (λ a. a) n
