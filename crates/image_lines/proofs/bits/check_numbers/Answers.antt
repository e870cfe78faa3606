use Rattle.std.proofs.lemmas.Result.{IfOk-weaker}
use Rattle.model.specs.Image.{image_view}
use Rattle.frozen.specs.Kept.{frozen_view}
use Rattle.image_lines.proofs.NumberLemmas.{numbers_there}
use Rattle.image_lines.proofs.bits.check_numbers.Goals as goal

pub returns-clause-found : goal.returns-clause-found
returns-clause-found g c =
    IfOk-weaker c.number_findings.result _ _ (λ found are honest.
    let frozen = c.in_ok-frozen.frozen in
    let kept = c.in_ok-frozen.ensures.ok honest in
    (frozen.geometry, kept.is_image, numbers_there frozen.geometry (frozen_view frozen) (image_view frozen.geometry (g.D.Device.image c.args.device.now)) found.items kept.metadata are))
    c.number_findings.ensures.found
