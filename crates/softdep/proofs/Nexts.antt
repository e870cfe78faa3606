-- Which block comes next, as the table says it and as the value does.
use Rattle.std.proofs.Common.{ℕ, ◌≤◌, Option, Some, None, sym, ◌∙◌, subst}
use Rattle.std.specs.Option.{MatchOption}
use Rattle.model.specs.Layout.{Geometry}
use Rattle.queue_model.specs.Blocks.{home_of}
use Rattle.softdep_queue.specs.declared.table.Table.{Table}
use Rattle.softdep_queue.specs.Next.{IsLeastToWrite, IsNextToWrite, NothingToWrite, NothingToWriteFrom}
use Rattle.softdep.specs.Queued.{Queued, IsQueue, IsLeastNext, IsNext, NothingNext, NothingNextFrom, unsynced_of}
use Rattle.softdep.proofs.Flushed.{next_count}

module _ (geo : Geometry) (t : Table) (queue : Queued) (is : IsQueue geo t queue) where
  pub least_next : (result : Option ℕ) → MatchOption result (NothingToWrite (home_of geo) (unsynced_of queue) queue.loose) (λ address. IsLeastToWrite (home_of geo) (unsynced_of queue) queue.loose address)
      → MatchOption result (NothingNext queue) (λ address. IsLeastNext queue address)
  least_next None nothing = λ b. sym (next_count geo t queue b is) ∙ nothing b
  least_next (Some a) least = record {
    has = subst (λ n. 1 ≤ n) (next_count geo t queue a is) least.has;
    least = λ b low. sym (next_count geo t queue b is) ∙ least.least b low;
  }

  pub next_from : (from : ℕ) (result : Option ℕ) → MatchOption result (NothingToWriteFrom (home_of geo) (unsynced_of queue) queue.loose from) (λ address. IsNextToWrite (home_of geo) (unsynced_of queue) queue.loose from address)
      → MatchOption result (NothingNextFrom queue from) (λ address. IsNext queue from address)
  next_from from None nothing = λ b above. sym (next_count geo t queue b is) ∙ nothing b above
  next_from from (Some a) next = record {
    above = next.above;
    has = subst (λ n. 1 ≤ n) (next_count geo t queue a is) next.has;
    least = λ b above low. sym (next_count geo t queue b is) ∙ next.least b above low;
  }
