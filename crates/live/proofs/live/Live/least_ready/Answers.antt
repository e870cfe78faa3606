use Rattle.std.proofs.Common.{MatchOption, subst}
use Rattle.softdep.specs.Queued.{IsLeastNext, NothingNext}
use Rattle.live.specs.Alive.{Alive}
use Rattle.live.proofs.live.Live.least_ready.Goals as goal

pub returns : goal.returns
returns g c = subst (λ (l : Alive _). MatchOption c.least_ready.result (NothingNext l.queue) (IsLeastNext l.queue)) c.self.view_is c.least_ready.ensures.least
