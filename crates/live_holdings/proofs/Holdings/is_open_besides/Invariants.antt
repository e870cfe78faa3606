use Rattle.std.proofs.Common.{◌≡◌, ◌<◌, ℕ, None, false, slice_index_or, set as slice_set}
use Rattle.live_holdings.proofs.Tables.{is_on}
use Rattle.live_holdings.proofs.Holdings.is_open_besides.Given as goal

-- no other handle so far is open on the number
abbrev pub invariant-loop-other : goal.invariant-loop-other
invariant-loop-other l = (h : ℕ) → h < l.other → is_on l.fn.number (slice_index_or (slice_set l.fn.self.opened l.fn.handle None) h None) ≡ false
