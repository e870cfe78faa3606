use Rattle.std.proofs.Common.{All, subst}
use Rattle.std.proofs.lemmas.List.{take_all}
use Rattle.std.proofs.lemmas.List.Elements.{All-more}
use Rattle.updates.specs.Places.{IsUpdate}
use Rattle.bench_queue.proofs.command.are_updates.Goals as goal

pub loop-update-preserved : goal.loop-update-preserved
loop-update-preserved c =
    All-more (IsUpdate c.args.geometry.now) c.args.updates.now c.loop-update.update-index c.update-item.result c.loop-update-test.true c.loop-update.invariant
    (subst (IsUpdate c.args.geometry.now) c.update-item.is (c.is_update.ensures c.if-not-is_update.false))

pub returns : goal.returns
returns c _ = subst (All (IsUpdate c.args.geometry.now)) (take_all c.loop-update.update-index c.args.updates.now c.loop-update-test.false) c.loop-update.invariant
