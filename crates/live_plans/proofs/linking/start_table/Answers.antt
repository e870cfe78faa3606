use Rattle.std.proofs.Common.{◌∷◌, [], map, replicate, ap, ◌∙◌}
use Rattle.std.proofs.lemmas.Result.{on_ok_weaker}
use Rattle.std.specs.Arc.{arc_value}
use Rattle.machine.specs.Cells.{with_pointer}
use Rattle.ordering.specs.Cuts.{Block, BlockBit}
use Rattle.updates.specs.Values.{cell}
use Rattle.live_plans.proofs.GrowLemmas.{marks_then_writes}
use Rattle.live_plans.proofs.linking.start_table.Goals as goal

pub returns : goal.returns
returns c =
    on_ok_weaker c.push-2.result
    (λ writes.
    marks_then_writes c.args.plan.now c.push.new.self c.push-2.new.self c.args.table (with_pointer (replicate 1024 0) 0 c.args.block) (arc_value c.in_ok-bytes.bytes)
    (map cell c.new.result.items) (map cell c.in_ok-after.after.items) (BlockBit c.args.table ∷ Block c.args.block ∷ [])
    (ap (map cell) c.new.ensures.items) (c.in_ok-bytes.ensures.bytes ∙ c.put_pointer.ensures) (ap (map cell) c.in_ok-after.ensures.items)
    c.in_ok-push.ensures writes)
    c.push-2.ensures
