use Rattle.std.proofs.Common.{◌≡◌, drop}
use Rattle.live_states.specs.Holdings.{kept_by}
use Rattle.live_holdings.proofs.standing.any_keeps.Given as goal

-- none so far keeps it
abbrev pub invariant-loop-snapshot : goal.invariant-loop-snapshot
invariant-loop-snapshot l = kept_by (drop l.snapshot-index l.fn.standing) l.fn.address ≡ kept_by l.fn.standing l.fn.address
