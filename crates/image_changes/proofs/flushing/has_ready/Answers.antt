use Rattle.std.proofs.Common.{subst}
use Rattle.snapshot.specs.Alive.{Alive}
use Rattle.softdep.specs.Queued.{IsLeastNext, NothingNext}
use Rattle.image_changes.proofs.AskingLemmas.{where_none}
use Rattle.image_changes.proofs.flushing.has_ready.Goals as goal

pub returns : goal.returns
returns g c = λ absent.
    subst (λ (live : Alive g.row.D.Denot). NothingNext live.queue) c.live.ensures.live
    (where_none c.least_ready.result c.is_some.result (NothingNext c.live.result.now.queue) (IsLeastNext c.live.result.now.queue) c.least_ready.ensures c.is_some.ensures absent)
