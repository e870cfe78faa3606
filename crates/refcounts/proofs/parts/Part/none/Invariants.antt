use Rattle.std.proofs.Common.{◌≡◌, [], All, vec_len}
use Rattle.refcounts.proofs.parts.Part.none.Given as goal

abbrev pub invariant-loop-group : goal.invariant-loop-group
invariant-loop-group l = record { count : vec_len l.by_group ≡ l._group; empty : All (λ numbers. numbers.items ≡ []) l.by_group.items }
