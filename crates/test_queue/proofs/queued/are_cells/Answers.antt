use Rattle.std.proofs.Common.{All, subst}
use Rattle.std.proofs.lemmas.List.{take_all}
use Rattle.std.proofs.lemmas.List.Elements.{All-more, All-map}
use Rattle.updates.specs.Places.{IsCell}
use Rattle.updates.specs.Values.{cell}
use Rattle.test_queue.proofs.queued.are_cells.Goals as goal

pub loop-candidate-preserved : goal.loop-candidate-preserved
loop-candidate-preserved c =
    All-more (λ x. IsCell c.args.geometry.now (cell x)) c.args.cells.now c.loop-candidate.candidate-index _ c.loop-candidate-test.true c.loop-candidate.invariant (c.is_cell.ensures c.if-not-is_cell.false)

pub returns : goal.returns
returns c _ =
    All-map (IsCell c.args.geometry.now) cell c.args.cells.now
    (subst (All (λ x. IsCell c.args.geometry.now (cell x))) (take_all c.loop-candidate.candidate-index c.args.cells.now c.loop-candidate-test.false) c.loop-candidate.invariant)
