use Rattle.std.proofs.Common.{◌<◌, ◌≤◌, length, subst, arith}
use Rattle.std.specs.List.{All}
use Rattle.std.proofs.lemmas.List.{take_all}
use Rattle.std.proofs.lemmas.List.Elements.{All-more}
use Rattle.import_tree.specs.Placing.{IsNew}
use Rattle.import_tree.proofs.items.allow_items.Goals as goal

pub loop-item-preserved : goal.loop-item-preserved
loop-item-preserved c =
    let kept = c.args.frozen.now in
    let items = c.args.items.now in
    let i = c.loop-item.item-index in
    let within : i < length items = omega (arith, c.loop-item-test.true) in
    All-more (IsNew kept) items i c.item-item.result within c.loop-item.invariant (subst (IsNew kept) c.item-item.is c.in_ok-allow_item.ensures)

pub returns : goal.returns
returns c =
    let items = c.args.items.now in
    let i = c.loop-item.item-index in
    let all : length items ≤ i = omega (arith, c.loop-item-test.false) in
    subst (All (IsNew c.args.frozen.now)) (take_all i items all) c.loop-item.invariant
