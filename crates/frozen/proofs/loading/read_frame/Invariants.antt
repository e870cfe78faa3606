use Rattle.std.proofs.Common.{◌≡◌}
use Rattle.model.specs.Layout.{group_block}
use Rattle.frozen.specs.Shared.{shared_blocks}
use Rattle.device.specs.Reading.{ReadsOnly}
use Rattle.frozen.specs.Loading.{AreReadFrom, KeptBelow}
use Rattle.frozen.proofs.loading.read_frame.Given as goal

abbrev pub invariant-loop-group : goal.invariant-loop-group
invariant-loop-group g l = record {
  kept : KeptBelow l.geometry l.first (shared_blocks l.blocks.items) (group_block l.geometry l.group);
  told : g.D.Device.honest l.device → AreReadFrom (shared_blocks l.blocks.items) (g.D.Device.image l.fn.device);
  reads : ReadsOnly g.D.Device.honest g.D.Device.image g.D.Device.held l.fn.device l.device;
  failures : g.D.Device.failures l.device ≡ g.D.Device.failures l.fn.device;
}
