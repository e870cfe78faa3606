use Rattle.std.proofs.Common.{◌≡◌, ◌+◌, ◌-◌, ap, ◌∙◌, subst, length, arith}
use Rattle.queue_model.proofs.FlushLemmas.{taken_rest}
use Rattle.softdep.specs.Queued.{Queued, AreClosed, unsynced_of, pending_of, after, fresh_queue}
use Rattle.softdep.proofs.Queues.{pending_rest}
use Rattle.softdep.proofs.queue.Queue.pending.Goals as goal

module _ (c : goal.After-loose) where
  abbrev v : Queued
  v = after (fresh_queue c.self.inside.geometry) c.self.inside.events.items

  all : c.loose.result + length (pending_of (after (fresh_queue c.self.inside.geometry) c.self.inside.events.items)) ≡ c.pending.result
  all =
      let loose = c.loose.ensures c.self.inside.geometry c.self.invariant.entries (unsynced_of v) v.loose c.self.invariant.holds in
      let pending = c.pending.ensures in
      let held = c.self.invariant.holds.takes.ties.pending in
      let cut = taken_rest (unsynced_of v) v.loose c.self.invariant.closed.loose in
      let left = ap length (pending_rest v c.self.invariant.closed) in
      omega (arith, loose, pending, held, cut, left)

pub overflow_sub-result : goal.overflow_sub-result
overflow_sub-result c = let a = all c in omega (arith, a)

pub returns-clause-count : goal.returns-clause-count
returns-clause-count c =
    let a = all c in
    let count : c.pending.result - c.loose.result ≡ length (pending_of (v c)) = omega (arith, a) in
    count ∙ ap (λ (w : Queued). length (pending_of w)) c.self.view_is

pub returns-clause-closed : goal.returns-clause-closed
returns-clause-closed c = subst AreClosed c.self.view_is c.self.invariant.closed
