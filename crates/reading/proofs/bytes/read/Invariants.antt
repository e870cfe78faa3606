use Rattle.std.proofs.Common.{◌≡◌}
use Rattle.device.specs.Reading.{ReadsOnly}
use Rattle.frozen.specs.Kept.{IsKeptOf}
use Rattle.model.specs.Image.{image_view}
use Rattle.reading.specs.Bytes.{seen_below}
use Rattle.reading.proofs.bytes.read.Given as goal

abbrev pub invariant-loop-index : goal.invariant-loop-index
invariant-loop-index g l = record {
  reads : ReadsOnly g.D.Device.honest g.D.Device.image g.D.Device.held l.fn.device l.device;
  failures : g.D.Device.failures l.device ≡ g.D.Device.failures l.fn.device;
  read : g.D.Device.honest l.device → IsKeptOf l.fn.frozen (g.D.Device.image l.fn.device)
      → l.bytes.items ≡ seen_below l.fn.frozen.geometry (image_view l.fn.frozen.geometry (g.D.Device.image l.fn.device)) l.number l.index;
}
