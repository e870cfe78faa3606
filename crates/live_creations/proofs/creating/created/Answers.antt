-- The number's bit, its record, and then the entry.
use Rattle.std.proofs.Common.{map, ap, ◌∙◌}
use Rattle.frozen.specs.Kept.{Kept}
use Rattle.updates.specs.Values.{cell}
use Rattle.live_creations.proofs.FirstUpdates.{makes_file}
use Rattle.live_creations.proofs.creating.created.Goals as goal

pub returns : goal.returns
returns c = λ view shows.
    makes_file c.args.metadata.now.geometry c.geometry.result view c.args.new.now c.args.attributes.now c.new-plan.result c.push.new.self c.set_record.new.self c.enter.new.plan (map cell c.new.result.items) (map cell c.in_ok-after.after.items)
    c.new-plan.ensures (c.geometry.ensures.geometry ∙ ap (λ (k : Kept). k.geometry) c.frozen.ensures.same) (ap (map cell) c.new.ensures.items) (ap (map cell) c.in_ok-after.ensures.items)
    c.in_ok-push.ensures c.in_ok-set_record.ensures (c.in_ok-enter.ensures view shows)
