use Rattle.std.proofs.Common.{ℕ, subst}
use Rattle.std.specs.Option.{MatchOption}
use Rattle.softdep.specs.Queued.{Queued, AreClosed, IsNext, NothingNextFrom, unsynced_of, after, fresh_queue}
use Rattle.softdep.proofs.Nexts.{next_from}
use Rattle.softdep.proofs.queue.Queue.next_ready.Goals as goal

pub returns-clause-next : goal.returns-clause-next
returns-clause-next c =
    let from : ℕ = c.args.from in
    let v : Queued = after (fresh_queue c.self.inside.geometry) c.self.inside.events.items in
    subst (λ (w : Queued). MatchOption c.next_ready.result (NothingNextFrom w from) (λ address. IsNext w from address)) c.self.view_is
    (next_from c.self.inside.geometry c.self.inside.table v c.self.invariant from c.next_ready.result
    (c.next_ready.ensures.next c.self.inside.geometry c.self.invariant.entries (unsynced_of v) v.loose c.self.invariant.holds))

pub returns-clause-closed : goal.returns-clause-closed
returns-clause-closed c = subst AreClosed c.self.view_is c.self.invariant.closed
