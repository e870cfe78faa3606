use Rattle.std.proofs.Common.{ℕ, Option, Some, None}
use Rattle.std.specs.Option.{MatchOption}
use Rattle.queue_model.specs.Blocks.{home_of}
use Rattle.lists.specs.Ready.{IsLeast, NothingStands}
use Rattle.softdep_queue.specs.Next.{IsLeastToWrite, NothingToWrite}
use Rattle.softdep_queue.proofs.Asked.{least_is, nothing_is}
use Rattle.softdep_queue.proofs.table.Table.least_ready.Goals as goal

pub returns-clause-least : goal.returns-clause-least
returns-clause-least c geo queue q loose holds = step c.least.result c.least.ensures
  where
    step : (o : Option ℕ) → MatchOption o (NothingStands c.args.self.now.ready) (λ a. IsLeast c.args.self.now.ready a)
        → MatchOption o (NothingToWrite (home_of geo) q loose) (λ a. IsLeastToWrite (home_of geo) q loose a)
    step None none = nothing_is geo c.args.self.now queue q loose holds none
    step (Some a) is = least_is geo c.args.self.now queue q loose holds a is
