use Rattle.std.proofs.Common.{◌≡◌, take}
use Rattle.live_states.specs.Snapshots.{unmarked}
use Rattle.live_holdings.proofs.unmark.Given as goal

-- the marks of the numbers so far are gone
abbrev pub invariant-loop-number : goal.invariant-loop-number
invariant-loop-number l = l.marks ≡ unmarked (take l.number-index l.fn.numbers) l.initial.marks
