use Rattle.std.proofs.Common.{sym, subst}
use Rattle.std.proofs.lemmas.Result.{on_ok_weaker}
use Rattle.model.specs.Image.{image_view}
use Rattle.export_host.specs.Copies.{MadeMore}
use Rattle.export_host.proofs.CopyLemmas.{made_none, made_one}
use Rattle.export_host.proofs.getting.get_file.Goals as goal

pub returns-clause-more : goal.returns-clause-more
returns-clause-more g c =
    let kept = c.args.frozen.now in
    let item = c.in_ok-item.item in
    on_ok_weaker c.make_item.result (λ made honest is.
    made_one kept.geometry (image_view kept.geometry (g.D.Device.image c.args.device.now)) c.args.copies.now.files.items c.make_item.new.copies.files.items (item.path, item.contents) made
    (c.in_ok-item.ensures.item honest is)) c.make_item.ensures

pub returns-then-not-is_possible-clause-more : goal.returns-then-not-is_possible-clause-more
returns-then-not-is_possible-clause-more g c = λ honest is.
    let kept = c.args.frozen.now in
    let view = image_view kept.geometry (g.D.Device.image c.args.device.now) in
    let old = c.args.copies.now.files.items in
    subst (MadeMore kept.geometry view old) (sym c.leave_out.ensures) (made_none kept.geometry view old)
