use Rattle.std.proofs.Common.{◌≡◌, false}
use Rattle.device.specs.Reading.{ReadsOnly}
use Rattle.frozen.specs.Kept.{IsKeptOf, frozen_view}
use Rattle.model.specs.Image.{image_view}
use Rattle.fuse_reader.specs.Pieces.{lacks_block, seen_from}
use Rattle.fuse_reader.proofs.piece.blocks_from.Given as goal

abbrev pub invariant-loop-index : goal.invariant-loop-index
invariant-loop-index g l = record {
  reads : ReadsOnly g.D.Device.honest g.D.Device.image g.D.Device.held l.fn.device l.device;
  failures : g.D.Device.failures l.device ≡ g.D.Device.failures l.fn.device;
  whole : lacks_block l.fn.frozen.geometry (frozen_view l.fn.frozen) l.number l.first l.index ≡ false;
  read : g.D.Device.honest l.device → IsKeptOf l.fn.frozen (g.D.Device.image l.fn.device)
      → l.bytes.items ≡ seen_from l.fn.frozen.geometry (image_view l.fn.frozen.geometry (g.D.Device.image l.fn.device)) l.number l.first l.index;
}
