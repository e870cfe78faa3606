use Rattle.std.proofs.Common.{◌+◌, ◌++◌, ◌∷◌, [], sym, ap, ◌∙◌, append-nil, arith, slice_index_or}
use Rattle.std.proofs.lemmas.List.{take_all}
use Rattle.file_device.specs.Calls.{call_at, calls_of, writes_from}
use Rattle.file_device.proofs.RunLemmas.{add_next}
use Rattle.file_device.proofs.file.add_run.Goals as goal

pub loop-at-init : goal.loop-at-init
loop-at-init c = sym (append-nil c.args.answered.now.items)

pub loop-at-preserved : goal.loop-at-preserved
loop-at-preserved c =
    let blocks = c.blocks-block-items.result.now in
    add_next c.args.is_write c.args.run.now.span.first c.loop-at.at blocks c.args.answered.now.items c.loop-at.answered.items c.and.result.items c.loop-at-test.true c.loop-at.invariant
    (c.and.ensures ∙ ap (λ call. c.loop-at.answered.items ++ (call, slice_index_or blocks c.loop-at.at []) ∷ []) (c.call_at.ensures ∙ ap (λ a. call_at c.args.is_write (a + c.loop-at.at)) c.first.ensures))

pub returns : goal.returns
returns c =
    let blocks = c.blocks-block-items.result.now in
    c.loop-at.invariant ∙ ap (λ l. c.args.answered.now.items ++ calls_of c.args.is_write (writes_from c.args.run.now.span.first l)) (take_all c.loop-at.at blocks (omega (arith, c.loop-at-test.false)) ∙ c.blocks-block-items.ensures)
