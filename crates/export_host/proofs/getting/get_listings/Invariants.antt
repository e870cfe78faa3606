use Rattle.device.specs.Reading.{ReadsOnly}
use Rattle.frozen.specs.Kept.{IsKeptOf}
use Rattle.model.specs.Image.{image_view}
use Rattle.export_host.specs.Copies.{MadeMore}
use Rattle.export_host.proofs.getting.get_listings.Given as goal

abbrev pub invariant-loop-listing : goal.invariant-loop-listing
invariant-loop-listing g l = record {
  reads : ReadsOnly g.D.Device.honest g.D.Device.image g.D.Device.held l.fn.device l.device;
  more : g.D.Device.honest l.device → IsKeptOf l.part.frozen.now (g.D.Device.image l.fn.device)
      → MadeMore l.part.frozen.now.geometry (image_view l.part.frozen.now.geometry (g.D.Device.image l.fn.device)) l.fn.copies.files.items l.copies.files.items;
}
