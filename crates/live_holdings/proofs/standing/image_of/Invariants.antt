use Rattle.std.proofs.Common.{◌≡◌, drop}
use Rattle.machine.specs.Standing.{image_at}
use Rattle.live_holdings.proofs.standing.image_of.Given as goal

-- none so far has the number
abbrev pub invariant-loop-snapshot : goal.invariant-loop-snapshot
invariant-loop-snapshot l = image_at (drop l.snapshot-index l.fn.standing) l.fn.number ≡ image_at l.fn.standing l.fn.number
