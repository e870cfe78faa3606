use Rattle.std.proofs.Common.{◌<◌, refl, ap, ◌∙◌, arith, below_more}
use Rattle.model.specs.Layout.{Geometry, block_count}
use Rattle.model.proofs.Addresses.{data_range}
use Rattle.same_metadata.proofs.have_same_block_bits.Goals as goal

pub loop-address-preserved : goal.loop-address-preserved
loop-address-preserved c = below_more _ _ c.loop-address.invariant (c.has_same_block_bit.ensures.0 c.if-not-has_same_block_bit.false)

pub returns : goal.returns
returns c =
    let geo = c.args.one.now.geometry in
    let count = c.blocks-address-end.ensures.count ∙ ap (λ (g : Geometry). block_count g) c.geometry.ensures.geometry in (
      (λ _ a t.
          let low : a < block_count geo = (data_range geo c.geometry.ensures.frame.geometry a t).1 in
          c.loop-address.invariant a (omega (arith, low, count, c.loop-address-test.false))),
      (λ _. refl),
    )
