use Rattle.std.proofs.Common.{◌≡◌, ◌+◌, ◌<◌, ℕ, List, Some, length}
use Rattle.device.specs.Reading.{ReadsOnly}
use Rattle.model.specs.Image.{block_at}
use Rattle.model.specs.Layout.{group_block}
use Rattle.frozen.specs.Kept.{kept_at}
use Rattle.frozen.specs.Shared.{shared_blocks}
use Rattle.frozen.specs.Loading.{IsHeaderOf, IsKeptBlock}
use Rattle.frozen.proofs.loading.read_header.Given as goal

abbrev pub invariant-loop-address : goal.invariant-loop-address
invariant-loop-address g l = record {
  count : group_block l.geometry l.group + length (shared_blocks l.blocks.items) ≡ l.address;
  each : (k : ℕ) → k < length (shared_blocks l.blocks.items) → IsKeptBlock l.geometry (group_block l.geometry l.group + k) (kept_at (shared_blocks l.blocks.items) k);
  told : g.D.Device.honest l.device → IsHeaderOf l.geometry (g.D.Device.image l.fn.device) l.group (shared_blocks l.blocks.items);
  reads : ReadsOnly g.D.Device.honest g.D.Device.image g.D.Device.held l.fn.device l.device;
  failures : g.D.Device.failures l.device ≡ g.D.Device.failures l.fn.device;
}
