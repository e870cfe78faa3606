use Rattle.model.specs.Image.{image_view}
use Rattle.export_host.proofs.CopyLemmas.{made_none}
use Rattle.export_host.proofs.getting.get_named.Goals as goal

pub returns-then-is_directory_at-clause-more : goal.returns-then-is_directory_at-clause-more
returns-then-is_directory_at-clause-more g c = λ honest is.
    let kept = c.args.part.now.frozen.now in
    made_none kept.geometry (image_view kept.geometry (g.D.Device.image c.args.device.now)) c.args.copies.now.files.items
