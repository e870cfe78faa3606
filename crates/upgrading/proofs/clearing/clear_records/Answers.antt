use Rattle.std.proofs.Common.{◌≡◌, ◌<◌, ◌*◌, refl, ap, ap₂, ◌∙◌, subst₂, arith}
use Rattle.model.specs.Layout.{Geometry, inode_block, inode_count}
use Rattle.frozen.specs.Kept.{kept_bytes}
use Rattle.upgrading.specs.Steps.{Clears}
use Rattle.upgrading.proofs.Cuts.{more_left, none_left}
use Rattle.upgrading.proofs.Ends.{more_cleared, none_cleared}
use Rattle.upgrading.proofs.clearing.clear_records.Goals as goal

pub loop-block-init : goal.loop-block-init
loop-block-init g c = record {
  cleared = none_cleared c.args.frozen.now (g.D.Device.image c.args.device.now) (g.D.Device.held c.args.device.now);
  left = none_left c.args.frozen.now (g.D.Device.image c.args.device.now) (g.D.Device.held c.args.device.now);
  few = omega arith;
  count = refl;
  failures = refl;
  honest = λ h. h;
}

pub loop-block-preserved : goal.loop-block-preserved
loop-block-preserved g c =
    let i = c.loop-block.invariant in
    let step = c.in_ok-writes.ensures in
    let kept = c.args.frozen.now in
    let n = c.loop-block.block in
    let image = g.D.Device.image in
    let held = g.D.Device.held in
    let number : n * 8 ≡ 8 * n = omega arith in
    let all = c.inodes-block-end.ensures.count ∙ ap (λ (geo : Geometry). inode_count geo) c.geometry-geometry.ensures.geometry in
    let inside : 8 * n < inode_count kept.geometry = omega (arith, c.loop-block-test.true, all) in
    let address = c.inode_place-address.ensures.address ∙ ap₂ (λ (geo : Geometry) m. inode_block geo m) c.geometry-geometry.ensures.geometry number in
    let records = c.records_of.ensures ∙ ap (λ m. kept_bytes kept.blocks (inode_block kept.geometry m)) number in
    let clears = subst₂ (λ a b. Clears g.D.Device.KEEPS_ORDER a b (image c.loop-block.device) (held c.loop-block.device) (image c.clear_block.new.device) (held c.clear_block.new.device) c.in_ok-writes.field-0) address records step.clears in
    record {
      cleared =
          more_cleared g.D.Device.KEEPS_ORDER kept (image c.args.device.now) (held c.args.device.now) n (image c.loop-block.device) (held c.loop-block.device) c.loop-block.writes
          (image c.clear_block.new.device) (held c.clear_block.new.device) c.in_ok-writes.field-0 i.cleared inside clears;
      left =
          more_left g.D.Device.KEEPS_ORDER kept (image c.args.device.now) (held c.args.device.now) n (image c.loop-block.device) (held c.loop-block.device)
          (image c.clear_block.new.device) (held c.clear_block.new.device) c.in_ok-writes.field-0 (g.met.D.Device.answers c.args.device.now) i.left inside clears;
      few = omega (arith, i.few, step.few);
      count = step.count ∙ i.count;
      failures = step.cause ∙ i.failures;
      honest = λ h. i.honest (step.honest h);
    }
