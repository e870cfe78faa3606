use Rattle.std.proofs.Common.{ℕ, Option, Some, None}
use Rattle.std.specs.Option.{MatchOption}
use Rattle.queue_model.specs.Blocks.{home_of}
use Rattle.lists.specs.Ready.{IsNext, NothingStandsFrom}
use Rattle.softdep_queue.specs.Next.{IsNextToWrite, NothingToWriteFrom}
use Rattle.softdep_queue.proofs.Asked.{next_is, nothing_next}
use Rattle.softdep_queue.proofs.table.Table.next_ready.Goals as goal

pub returns-clause-next : goal.returns-clause-next
returns-clause-next c geo queue q loose holds = step c.next.result c.next.ensures
  where
    from : ℕ
    from = c.args.from

    step : (o : Option ℕ) → MatchOption o (NothingStandsFrom c.args.self.now.ready from) (λ a. IsNext c.args.self.now.ready from a)
        → MatchOption o (NothingToWriteFrom (home_of geo) q loose from) (λ a. IsNextToWrite (home_of geo) q loose from a)
    step None none = nothing_next geo c.args.self.now queue q loose holds from none
    step (Some a) is = next_is geo c.args.self.now queue q loose holds from a is
