use Rattle.std.proofs.Common.{refl, sym, ap, subst}
use Rattle.queue_model.specs.Entries.{empty_queue}
use Rattle.softdep.specs.Queued.{IsQueue, after, fresh_queue}
use Rattle.softdep.proofs.queue.Queue.new.Goals as goal

pub invariant_of-result : goal.invariant_of-result
invariant_of-result c =
    subst (IsQueue c.args.geometry c.in_ok-new.field-0) (ap (after (fresh_queue c.args.geometry)) (sym c.new-2.ensures))
    (record { entries = empty_queue; holds = c.in_ok-new.ensures; closed = record { durable = tt; loose = tt }; same = refl })
