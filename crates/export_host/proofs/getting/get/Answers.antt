use Rattle.std.proofs.Common.{length, sym, ap, ◌∙◌, subst}
use Rattle.frozen.specs.Kept.{IsKeptOf}
use Rattle.model.specs.Image.{image_view}
use Rattle.export_host.specs.Copies.{AreCopies, MadeMore}
use Rattle.export_host.proofs.CopyLemmas.{made_all}
use Rattle.export_host.proofs.getting.get.Goals as goal

pub get_part-requires : goal.get_part-requires
get_part-requires g c = record { count = ap length c.load.ensures.reads.same ∙ c.in_ok-frozen.ensures.count }

pub returns-clause-copies : goal.returns-clause-copies
returns-clause-copies g c = λ honest.
    let frozen = c.in_ok-frozen.frozen in
    let kept = c.in_ok-frozen.ensures.ok (c.get_part.ensures.reads.honest honest) in
    let geo = frozen.geometry in
    let new = c.get_part.new.copies.files.items in (
      geo,
      kept.is_image,
      subst (AreCopies geo (image_view geo (g.D.Device.image c.args.device.now))) (sym c.end.ensures) (made_all geo (image_view geo (g.D.Device.image c.args.device.now)) c.new.result.items new c.new.ensures
          (subst (λ image. MadeMore geo (image_view geo image) c.new.result.items new) c.load.ensures.reads.same (c.in_ok-get_part.ensures.more honest (subst (IsKeptOf frozen) (sym c.load.ensures.reads.same) kept)))),
    )
