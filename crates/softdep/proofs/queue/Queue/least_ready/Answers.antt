use Rattle.std.proofs.Common.{subst}
use Rattle.std.specs.Option.{MatchOption}
use Rattle.softdep.specs.Queued.{Queued, AreClosed, IsLeastNext, NothingNext, unsynced_of, after, fresh_queue}
use Rattle.softdep.proofs.Nexts.{least_next}
use Rattle.softdep.proofs.queue.Queue.least_ready.Goals as goal

pub returns-clause-least : goal.returns-clause-least
returns-clause-least c =
    let v : Queued = after (fresh_queue c.self.inside.geometry) c.self.inside.events.items in
    subst (λ (w : Queued). MatchOption c.least_ready.result (NothingNext w) (λ address. IsLeastNext w address)) c.self.view_is
    (least_next c.self.inside.geometry c.self.inside.table v c.self.invariant c.least_ready.result
    (c.least_ready.ensures.least c.self.inside.geometry c.self.invariant.entries (unsynced_of v) v.loose c.self.invariant.holds))

pub returns-clause-closed : goal.returns-clause-closed
returns-clause-closed c = subst AreClosed c.self.view_is c.self.invariant.closed
