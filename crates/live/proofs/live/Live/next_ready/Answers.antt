use Rattle.std.proofs.Common.{MatchOption, subst}
use Rattle.softdep.specs.Queued.{IsNext, NothingNextFrom}
use Rattle.live.specs.Alive.{Alive}
use Rattle.live.proofs.live.Live.next_ready.Goals as goal

pub returns : goal.returns
returns g c =
    subst (λ (l : Alive _). MatchOption c.next_ready.result (NothingNextFrom l.queue c.args.from) (IsNext l.queue c.args.from)) c.self.view_is c.next_ready.ensures.next
