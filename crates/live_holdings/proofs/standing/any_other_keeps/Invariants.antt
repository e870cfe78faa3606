use Rattle.std.proofs.Common.{◌≡◌, drop}
use Rattle.machine.specs.Standing.{others}
use Rattle.live_states.specs.Holdings.{kept_by}
use Rattle.live_holdings.proofs.standing.any_other_keeps.Given as goal

-- none so far that has another number keeps it
abbrev pub invariant-loop-snapshot : goal.invariant-loop-snapshot
invariant-loop-snapshot l = kept_by (others (drop l.snapshot-index l.fn.standing) l.fn.number) l.fn.address ≡ kept_by (others l.fn.standing l.fn.number) l.fn.address
