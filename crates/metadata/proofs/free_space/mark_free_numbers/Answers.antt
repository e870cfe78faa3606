use Rattle.std.proofs.Common.{◌≡◌, ◌<◌, ◌+◌, ◌*◌, ℕ, set, true, sym, ap, ◌∙◌, arith}
use Rattle.model.specs.Layout.{Geometry, IsGeometry, inode_count, group_block}
use Rattle.model.specs.View.{map_bit}
use Rattle.frozen.specs.Kept.{Kept, kept_bytes}
use Rattle.metadata.proofs.FreeLemmas.{number_may_be, number_in_count, number_passes, number_marked_not, number_early_not, same_bound, one_passes, one_passes_not}
use Rattle.metadata.proofs.free_space.mark_free_numbers.Goals.{then-number-ge-ROOT+then-not-bit_of, else-number-ge-ROOT, else-number-ge-ROOT-via-then-number-ge-ROOT+else-not-bit_of, else-number-ge-ROOT-via-else-number-ge-ROOT}
use Rattle.metadata.proofs.free_space.mark_free_numbers.Goals as goal

pub loop-bit-init : goal.loop-bit-init
loop-bit-init c =
    let kept : Kept = c.args.frozen.now in
    same_bound (inode_count kept.geometry) (number_may_be kept) c.args.marks.now (c.args.group * kept.geometry.inodes) (c.args.group * kept.geometry.inodes + 0) c.requires.before (omega arith)

pub loop-bit-preserved : goal.loop-bit-preserved
loop-bit-preserved c =
    let kept : Kept = c.args.frozen.now in
    let ok : IsGeometry kept.geometry = c.geometry.ensures.frame.geometry in
    let group : ℕ = c.args.group in
    let bit : ℕ = c.loop-bit.bit in
    let inodes : c.inodes_a_group-inodes.result ≡ kept.geometry.inodes = c.inodes_a_group-inodes.ensures.count ∙ ap (λ (g : Geometry). g.inodes) c.geometry.ensures.geometry in
    let same : group * c.inodes_a_group-inodes.result + bit ≡ group * kept.geometry.inodes + bit = ap (λ k. group * k + bit) inodes in
    let low : bit < kept.geometry.inodes = omega (arith, c.loop-bit-test.true, inodes) in
    let next : group * kept.geometry.inodes + (bit + 1) ≡ group * kept.geometry.inodes + bit + 1 = omega arith in
    let maps : map_bit c.maps_of-maps.result.now 32 bit ≡ map_bit (kept_bytes kept.blocks (group_block kept.geometry group)) 32 bit = ap (λ b. map_bit b 32 bit) c.maps_of-maps.ensures.maps in
    elim c.if-number-ge-ROOT.branch [
      | then-number-ge-ROOT+then-not-bit_of w ↦
          one_passes (inode_count kept.geometry) (number_may_be kept) c.loop-bit.marks (group * kept.geometry.inodes + bit) (group * kept.geometry.inodes + (bit + 1)) c.loop-bit.invariant
          c.if-number-ge-ROOT.marks next (number_in_count kept ok group bit low c.requires.group)
          (number_passes kept ok group bit low c.requires.group (omega (arith, w.if-number-ge-ROOT.true, same)) (sym maps ∙ sym w.bit_of.ensures ∙ w.if-not-bit_of.true))
          (w.marks-is ∙ w.mark.ensures ∙ ap (λ n. set c.loop-bit.marks n true) same)
      | else-number-ge-ROOT w ↦
          one_passes_not (inode_count kept.geometry) (number_may_be kept) c.loop-bit.marks (group * kept.geometry.inodes + bit) (group * kept.geometry.inodes + (bit + 1)) c.loop-bit.invariant
          c.if-number-ge-ROOT.marks next
          (elim w.else-number-ge-ROOT.branch [
            | else-number-ge-ROOT-via-then-number-ge-ROOT+else-not-bit_of w' ↦ number_marked_not kept ok group bit low (sym maps ∙ sym w'.bit_of.ensures ∙ w'.if-not-bit_of.false)
            | else-number-ge-ROOT-via-else-number-ge-ROOT w' ↦ number_early_not kept ok group bit low (omega (arith, w'.if-number-ge-ROOT.false, same))
          ])
          w.marks-is
    ]

pub returns : goal.returns
returns c =
    let kept : Kept = c.args.frozen.now in
    let inodes : c.inodes_a_group-inodes.result ≡ kept.geometry.inodes = c.inodes_a_group-inodes.ensures.count ∙ ap (λ (g : Geometry). g.inodes) c.geometry.ensures.geometry in
    same_bound (inode_count kept.geometry) (number_may_be kept) c.loop-bit.marks (c.args.group * kept.geometry.inodes + c.loop-bit.bit) ((c.args.group + 1) * kept.geometry.inodes) c.loop-bit.invariant
    (omega (arith, c.loop-bit-test.false, c.loop-bit.auto.bit-end, inodes))
