use Rattle.std.proofs.Common.{◌≡◌, All, length}
use Rattle.loaders.proofs.looking.lookers.Given as goal

abbrev pub invariant-loop-worker : goal.invariant-loop-worker
invariant-loop-worker l = record { count : length l.works.items ≡ l._worker; alike : All (λ work. work.held.now ≡ l.held) l.works.items }
