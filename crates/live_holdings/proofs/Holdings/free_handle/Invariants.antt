use Rattle.std.proofs.Common.{ℕ, ◌<◌, IsSome}
use Rattle.live_states.specs.Holdings.{opened_by}
use Rattle.live_holdings.proofs.Holdings.free_handle.Given as goal

-- each handle so far is open
abbrev pub invariant-loop-handle : goal.invariant-loop-handle
invariant-loop-handle l = (h : ℕ) → h < l.handle → IsSome (opened_by l.fn.self h)
