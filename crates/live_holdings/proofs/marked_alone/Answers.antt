use Rattle.std.proofs.Common.{ℕ, List, [], ◌∷◌, ◌++◌, sym, ap, ◌∙◌, arith}
use Rattle.machine.specs.Standing.{others}
use Rattle.live_holdings.proofs.Walks.{alone_all, alone_next, alone_none, kept_next}
use Rattle.live_holdings.proofs.marked_alone.Goals.{then-not-keep_besides+in_ok-push, else-not-keep_besides}
use Rattle.live_holdings.proofs.marked_alone.Goals as goal

pub loop-block-init : goal.loop-block-init
loop-block-init c = (omega arith, c.new-blocks.ensures.items ∙ sym (alone_none c.args.marks.now (others c.args.snapshots.now.standing c.args.number)))

pub loop-block-preserved : goal.loop-block-preserved
loop-block-preserved c =
    let left = others c.args.snapshots.now.standing c.args.number in
    let block = c.in-Some.block in (
      omega (arith, c.in-Some.ensures.within),
      elim c.if-not-keep_besides.branch [
        | then-not-keep_besides+in_ok-push w ↦ rw w.blocks-is
            (w.in_ok-push.ensures.items ∙ ap (λ (ns : List ℕ). ns ++ block ∷ []) c.loop-block.invariant.1
            ∙ alone_next c.args.marks.now left c.loop-block.from block c.in-Some.ensures (sym c.keep_besides.ensures ∙ w.if-not-keep_besides.true))
        | else-not-keep_besides w ↦ rw w.blocks-is
            (c.loop-block.invariant.1 ∙ kept_next c.args.marks.now left c.loop-block.from block c.in-Some.ensures (sym c.keep_besides.ensures ∙ w.if-not-keep_besides.false))
      ],
    )

pub returns : goal.returns
returns c =
    let left = others c.args.snapshots.now.standing c.args.number in
    c.loop-block.invariant.1 ∙ alone_all c.args.marks.now left c.loop-block.from c.loop-block.invariant.0 c.in_default.ensures
