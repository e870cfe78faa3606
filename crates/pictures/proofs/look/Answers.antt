use Rattle.frozen.specs.Kept.{frozen_view}
use Rattle.model.specs.Image.{image_view}
use Rattle.pictures.proofs.ViewLemmas.{same_picture}
use Rattle.pictures.proofs.look.Goals as goal

pub returns-clause-pictured : goal.returns-clause-pictured
returns-clause-pictured g c = λ honest others.
    let frozen = c.in_ok-frozen.frozen in
    let kept = c.in_ok-frozen.ensures.ok honest others in
    (frozen.geometry, kept.is_image, same_picture frozen.geometry (frozen_view frozen) (image_view frozen.geometry (g.D.Device.image c.args.device.now)) kept.metadata c.in_ok-take_picture.field-0 c.in_ok-take_picture.ensures)
