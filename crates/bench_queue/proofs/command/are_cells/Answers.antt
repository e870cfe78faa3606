use Rattle.std.proofs.Common.{All, subst}
use Rattle.std.proofs.lemmas.List.{take_all}
use Rattle.std.proofs.lemmas.List.Elements.{All-more, All-map}
use Rattle.updates.specs.Places.{IsCell}
use Rattle.updates.specs.Values.{cell}
use Rattle.bench_queue.proofs.command.are_cells.Goals as goal

pub loop-named-preserved : goal.loop-named-preserved
loop-named-preserved c =
    All-more (λ x. IsCell c.args.geometry.now (cell x)) c.args.cells.now c.loop-named.named-index _ c.loop-named-test.true c.loop-named.invariant (c.is_cell.ensures c.if-not-is_cell.false)

pub returns : goal.returns
returns c _ =
    All-map (IsCell c.args.geometry.now) cell c.args.cells.now
    (subst (All (λ x. IsCell c.args.geometry.now (cell x))) (take_all c.loop-named.named-index c.args.cells.now c.loop-named-test.false) c.loop-named.invariant)
