use Rattle.std.proofs.Common.{ap, ◌∙◌, []}
use Rattle.std.proofs.lemmas.List.{length-set, take_all}
use Rattle.device.specs.Writes.{image_after}
use Rattle.device.proofs.WriteLemmas.{one_more_write}
use Rattle.device.proofs.memory.write_all.Goals as goal

pub loop-address-preserved : goal.loop-address-preserved
loop-address-preserved c = record {
  written = one_more_write c.args.blocks.now.items c.loop-address.blocks.items c.args.writes.now c.loop-address.address-index (0, []) c.loop-address-test.true c.loop-address.invariant.written;
  count = length-set c.loop-address.blocks.items _ _ ∙ c.loop-address.invariant.count;
}

pub returns : goal.returns
returns c = c.loop-address.invariant.written ∙ ap (image_after c.args.blocks.now.items) (take_all c.loop-address.address-index c.args.writes.now c.loop-address-test.false)
