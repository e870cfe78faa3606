use Rattle.std.proofs.Common.{sym, ap, ◌∙◌}
use Rattle.softdep_queue.specs.Contents.{last_bytes}
use Rattle.softdep.specs.Queued.{Queued, unsynced_of, pending_of, after, fresh_queue}
use Rattle.softdep.proofs.Queues.{pending_rest}
use Rattle.softdep.proofs.queue.Queue.contents.Goals as goal

pub returns : goal.returns
returns c =
    let v : Queued = after (fresh_queue c.self.inside.geometry) c.self.inside.events.items in
    c.contents.ensures c.self.invariant.entries (unsynced_of v) v.loose c.self.invariant.holds
    ∙ ap (λ q. last_bytes q c.args.address) (sym (pending_rest v c.self.invariant.closed)) ∙ ap (λ (w : Queued). last_bytes (pending_of w) c.args.address) c.self.view_is
