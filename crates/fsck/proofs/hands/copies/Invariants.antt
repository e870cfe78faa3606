use Rattle.std.proofs.Common.{◌≡◌, All, vec_len}
use Rattle.fsck.proofs.hands.copies.Given as goal

abbrev pub invariant-loop-worker : goal.invariant-loop-worker
invariant-loop-worker g l = record { count : vec_len l.works ≡ l._worker; alike : All (λ one. one ≡ l.work) l.works.items }
