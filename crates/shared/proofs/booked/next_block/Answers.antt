use Rattle.std.proofs.Common.{ℕ, Option, Some, None, MatchOption, inl, inr, refl, subst}
use Rattle.std.specs.Prelude.{unwrap_or}
use Rattle.softdep.specs.Queued.{IsLeastNext, NothingNext, Queued}
use Rattle.snapshot.specs.Alive.{Alive}
use Rattle.shared.specs.Next.{IsNext}
use Rattle.shared.proofs.booked.next_block.Goals as goal

next : (queue : Queued) (least : Option ℕ) → MatchOption least (NothingNext queue) (IsLeastNext queue) → IsNext queue (unwrap_or least 0)
next queue None none = inr (none, refl)
next queue (Some a) ready = inl ready

pub returns : goal.returns
returns g c =
    rw c.unwrap_or.ensures
    (next c.args.volume.now.queue c.least_ready.result
    (subst (λ (v : Alive _). MatchOption c.least_ready.result (NothingNext v.queue) (IsLeastNext v.queue)) c.live.ensures.live c.least_ready.ensures))
