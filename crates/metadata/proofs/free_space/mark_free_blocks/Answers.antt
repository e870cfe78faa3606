use Rattle.std.proofs.Common.{◌≡◌, ◌<◌, ◌+◌, ℕ, set, true, sym, ap, ◌∙◌, arith, mul-le-mul}
use Rattle.model.specs.Layout.{Geometry, IsGeometry, block_count, group_block, data_address, header_blocks}
use Rattle.model.specs.View.{map_bit}
use Rattle.frozen.specs.Kept.{Kept, kept_bytes, frozen_view}
use Rattle.metadata.specs.Free.{marked_in}
use Rattle.metadata.proofs.FreeLemmas.{block_may_be, address_in_count, block_passes, block_marked_not, same_bound, one_passes, one_passes_not, one_counted, past_header, few_marked}
use Rattle.metadata.proofs.free_space.mark_free_blocks.Goals.{then-not-bit_of, else-not-bit_of}
use Rattle.metadata.proofs.free_space.mark_free_blocks.Goals as goal

pub loop-bit-init : goal.loop-bit-init
loop-bit-init c = record {
  blocks = past_header c.args.frozen.now.geometry (frozen_view c.args.frozen.now) c.args.marks.now c.geometry-geometry.ensures.frame.geometry c.args.group c.requires.before;
  counted = omega arith;
}

pub overflow_add-count : goal.overflow_add-count
overflow_add-count c =
    let few = few_marked c.loop-bit.marks in
    let ok : IsGeometry c.args.frozen.now.geometry = c.geometry-geometry.ensures.frame.geometry in
    omega (arith, few, c.loop-bit.invariant.counted, c.loop-bit.invariant.blocks.count, mul-le-mul ok.few_groups ok.few_blocks)

pub loop-bit-preserved : goal.loop-bit-preserved
loop-bit-preserved c =
    let kept : Kept = c.args.frozen.now in
    let ok : IsGeometry kept.geometry = c.geometry-geometry.ensures.frame.geometry in
    let group : ℕ = c.args.group in
    let bit : ℕ = c.loop-bit.bit in
    let same : c.geometry-geometry.result ≡ kept.geometry = c.geometry-geometry.ensures.geometry in
    let blocks : c.blocks_a_group.result ≡ kept.geometry.blocks = c.blocks_a_group.ensures.count ∙ ap (λ (g : Geometry). g.blocks) same in
    let header : c.header_blocks.result ≡ header_blocks kept.geometry = c.header_blocks.ensures.count ∙ ap header_blocks same in
    let low : header_blocks kept.geometry + bit < kept.geometry.blocks = omega (arith, c.loop-bit-test.true, blocks, header) in
    let next : data_address kept.geometry group (bit + 1) ≡ data_address kept.geometry group bit + 1 = omega arith in
    let maps : map_bit c.maps_of-maps.result.now 160 bit ≡ map_bit (kept_bytes kept.blocks (group_block kept.geometry group)) 160 bit = ap (λ b. map_bit b 160 bit) c.maps_of-maps.ensures.maps in
    let within = address_in_count kept ok group bit low c.requires.group in
    elim c.if-not-bit_of.branch [
      | then-not-bit_of w ↦
          let at : w.data_address.result ≡ data_address kept.geometry group bit = w.data_address.ensures.address ∙ ap (λ (g : Geometry). data_address g group bit) same in
          let now : c.if-not-bit_of.marks ≡ set c.loop-bit.marks (data_address kept.geometry group bit) true = w.marks-is ∙ w.mark.ensures ∙ ap (λ n. set c.loop-bit.marks n true) at in record {
            blocks = one_passes (block_count kept.geometry) (block_may_be kept) c.loop-bit.marks (data_address kept.geometry group bit) (data_address kept.geometry group (bit + 1)) c.loop-bit.invariant.blocks
                c.if-not-bit_of.marks next within (block_passes kept ok group bit low c.requires.group (sym maps ∙ sym c.bit_of.ensures ∙ w.if-not-bit_of.true)) now;
            counted = let one = one_counted (block_count kept.geometry) (block_may_be kept) c.loop-bit.marks (data_address kept.geometry group bit) 0 c.loop-bit.invariant.blocks within in
                omega (arith, w.count-is, c.loop-bit.invariant.counted, ap marked_in now, one);
          }
      | else-not-bit_of w ↦ record {
        blocks = one_passes_not (block_count kept.geometry) (block_may_be kept) c.loop-bit.marks (data_address kept.geometry group bit) (data_address kept.geometry group (bit + 1)) c.loop-bit.invariant.blocks
            c.if-not-bit_of.marks next (block_marked_not kept ok group bit low (sym maps ∙ sym c.bit_of.ensures ∙ w.if-not-bit_of.false)) w.marks-is;
        counted = omega (arith, w.count-is, c.loop-bit.invariant.counted, ap marked_in w.marks-is);
      }
    ]

pub returns-clause-blocks : goal.returns-clause-blocks
returns-clause-blocks c =
    let kept : Kept = c.args.frozen.now in
    let same : c.geometry-geometry.result ≡ kept.geometry = c.geometry-geometry.ensures.geometry in
    let blocks : c.blocks_a_group.result ≡ kept.geometry.blocks = c.blocks_a_group.ensures.count ∙ ap (λ (g : Geometry). g.blocks) same in
    let header : c.header_blocks.result ≡ header_blocks kept.geometry = c.header_blocks.ensures.count ∙ ap header_blocks same in
    same_bound (block_count kept.geometry) (block_may_be kept) c.loop-bit.marks (data_address kept.geometry c.args.group c.loop-bit.bit) (group_block kept.geometry (c.args.group + 1)) c.loop-bit.invariant.blocks
    (omega (arith, c.loop-bit-test.false, c.loop-bit.auto.bit-end, blocks, header, c.geometry-geometry.ensures.frame.geometry.room_for_data))
