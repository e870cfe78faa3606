use Rattle.std.proofs.Common.{◌≡◌, ◌<◌, ℕ, None, false}
use Rattle.std.specs.Prelude.{◌==◌, slice_index_or}
use Rattle.std.specs.Option.{option_map_or}
use Rattle.live_holdings.proofs.Holdings.is_open.Given as goal

-- no handle so far is open on the number
abbrev pub invariant-loop-handle : goal.invariant-loop-handle
invariant-loop-handle l = (h : ℕ) → h < l.handle-index → option_map_or (λ j. j == l.fn.number) (slice_index_or l.fn.self.opened h None) false ≡ false
