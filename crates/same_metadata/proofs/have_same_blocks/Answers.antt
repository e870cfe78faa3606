use Rattle.std.proofs.Common.{◌<◌, ap, ◌∙◌, arith, below_more}
use Rattle.model.specs.Layout.{Geometry, block_count}
use Rattle.same_metadata.proofs.BlockLemmas.{same_blocks}
use Rattle.same_metadata.proofs.have_same_blocks.Goals as goal

pub loop-address-preserved : goal.loop-address-preserved
loop-address-preserved c = below_more _ _ c.loop-address.invariant (c.has_same_block.ensures.0 c.if-not-has_same_block.false)

pub returns : goal.returns
returns c = λ _.
    let geo = c.args.one.now.geometry in
    let count = c.blocks-address-end.ensures.count ∙ ap (λ (g : Geometry). block_count g) c.geometry.ensures.geometry in
    same_blocks c.args.one.now c.args.other.now c.requires c.geometry.ensures.frame c.geometry-2.ensures.frame
    (λ a low. c.loop-address.invariant a (omega (arith, low, count, c.loop-address-test.false)))
