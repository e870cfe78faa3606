use Rattle.std.proofs.Common.{◌≡◌, false, replicate, ap, ◌∙◌, arith}
use Rattle.model.specs.Layout.{Geometry, block_count}
use Rattle.frozen.specs.Kept.{Kept}
use Rattle.metadata.proofs.FreeLemmas.{before_groups, none_counted, all_blocks, few_marked}
use Rattle.metadata.proofs.free_space.free_blocks.Goals as goal

pub loop-group-init : goal.loop-group-init
loop-group-init c =
    let kept : Kept = c.args.frozen.now in
    let blocks : c.blocks-2.result ≡ block_count kept.geometry = c.blocks-2.ensures.count ∙ ap block_count c.geometry-geometry.ensures.geometry in
    let none : c.in_ok-marks.marks ≡ replicate (block_count kept.geometry) false = c.in_ok-marks.ensures ∙ ap (λ n. replicate n false) blocks in record {
      blocks = before_groups kept c.geometry-geometry.ensures.frame.geometry c.in_ok-marks.marks none;
      counted = none_counted kept c.geometry-geometry.ensures.frame.geometry c.in_ok-marks.marks none (omega (arith, c.blocks-2.ensures.few, blocks));
    }

pub overflow_add-count : goal.overflow_add-count
overflow_add-count c =
    let few = few_marked c.mark_free_blocks-count.new.marks in
    omega (arith, few, c.mark_free_blocks-count.ensures.count, c.mark_free_blocks-count.ensures.blocks.count, c.loop-group.invariant.blocks.count, c.loop-group.invariant.counted.marked, c.loop-group.invariant.counted.few)

pub returns-clause-blocks : goal.returns-clause-blocks
returns-clause-blocks c =
    let kept : Kept = c.args.frozen.now in
    let groups : c.groups-group-end.result ≡ kept.geometry.groups = c.groups-group-end.ensures.count ∙ ap (λ (g : Geometry). g.groups) c.geometry-geometry.ensures.geometry in
    all_blocks kept c.geometry-geometry.ensures.frame.geometry c.loop-group.marks c.loop-group.group (omega (arith, c.loop-group-test.false, c.loop-group.auto.group-end, groups)) c.loop-group.invariant.blocks
