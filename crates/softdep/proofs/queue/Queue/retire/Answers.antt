use Rattle.std.proofs.Common.{◌≡◌, sym, ap, ◌∙◌, subst}
use Rattle.softdep.specs.declared.queue.Kind.TheVariants.{Settled}
use Rattle.softdep.specs.Queued.{Queued, IsQueue, after, fresh_queue, unsynced_of, settled}
use Rattle.softdep.proofs.Issued.{after_push}
use Rattle.softdep.proofs.Flushed.{queue_settled}
use Rattle.softdep.proofs.queue.Queue.retire.Goals as goal

module _ (c : goal.After-self-1) where
  abbrev v : Queued
  v = after (fresh_queue c.self.inside.geometry) c.self.inside.events.items

  next : after (fresh_queue c.self.inside.geometry) c.and-self-inside.result.items ≡ settled (after (fresh_queue c.self.inside.geometry) c.self.inside.events.items)
  next = ap (after (fresh_queue c.self.inside.geometry)) c.and-self-inside.ensures ∙ after_push (fresh_queue c.self.inside.geometry) c.self.inside.events.items (c.self.inside.none, Settled)

pub settle-requires : goal.settle-requires
settle-requires c =
    let v : Queued = after (fresh_queue c.self.inside.geometry) c.self.inside.events.items in
    record { queue = c.self.invariant.entries; q = unsynced_of v; loose = v.loose; holds = c.self.invariant.holds }

pub invariant_of-self : goal.invariant_of-self
invariant_of-self c =
    let now = c.settle.ensures c.self.invariant.entries (unsynced_of (v c)) (v c).loose c.self.invariant.holds in
    subst (IsQueue c.self.inside.geometry c.settle.new.self) (sym (next c)) (queue_settled c.self.inside.geometry c.self.inside.table c.settle.new.self (v c) c.self.invariant now.0 now.1)

pub returns : goal.returns
returns c = next c ∙ ap settled c.self.view_is
