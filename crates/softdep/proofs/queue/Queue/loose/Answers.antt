use Rattle.std.proofs.Common.{ap, ◌∙◌}
use Rattle.queue_model.specs.Flush.{taken}
use Rattle.softdep.specs.Queued.{Queued, unsynced_of, after, fresh_queue}
use Rattle.softdep.proofs.queue.Queue.loose.Goals as goal

pub returns : goal.returns
returns c =
    let v : Queued = after (fresh_queue c.self.inside.geometry) c.self.inside.events.items in
    c.loose.ensures c.self.inside.geometry c.self.invariant.entries (unsynced_of v) v.loose c.self.invariant.holds ∙ ap (λ (w : Queued). taken w.loose) c.self.view_is
