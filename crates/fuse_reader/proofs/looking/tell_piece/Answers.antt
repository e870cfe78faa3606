use Rattle.std.proofs.Common.{◌≡◌, ◌-◌, ◌/◌, ◌%◌, ap, subst, ◌∙◌, inr, Err, take, drop}
use Rattle.device.specs.Writes.{HasFailed}
use Rattle.model.specs.Image.{image_view}
use Rattle.fuse_reader.specs.Said.{Says, Told, spelled}
use Rattle.fuse_reader.specs.Turns.{piece_said}
use Rattle.fuse_reader.proofs.SameLemmas.{on_ok, piece_lacks, piece_there}
use Rattle.fuse_reader.proofs.looking.tell_piece.Goals as goal

pub returns-in-Ok-clause-told : goal.returns-in-Ok-clause-told
returns-in-Ok-clause-told g c = on_ok c.tell_bytes.result c.tell_bytes.ensures (λ r honest is.
    let kept = c.args.frozen.now in
    let image = g.D.Device.image c.args.device.now in
    let offset = c.args.offset in
    let bytes = c.args.end - offset in
    let count = c.blocks_of_size.result - offset / 1024 in
    let failed = HasFailed (g.D.Device.failures c.args.device.now) (g.D.Device.failures c.blocks_from.new.device) in
    let got : c.deref.result.now ≡ c.in-Ok.bytes.items = c.deref.ensures.value in
    let said = r ∙ ap (λ xs. spelled c.args.unique (Told xs)) (c.cut.ensures.cut ∙ ap (λ xs. take bytes (drop (offset % 1024) xs)) got) in
    subst (λ n. Says c.args.unique (piece_said kept.geometry (image_view kept.geometry image) offset bytes (n - offset / 1024) c.args.number) failed c.tell_bytes.new.reply.items) c.blocks_of_size.ensures
    (piece_there kept image is c.args.number offset bytes count c.args.unique failed c.tell_bytes.new.reply.items c.in-Ok.bytes.items c.in-Ok.ensures.whole
    (c.in-Ok.ensures.read honest is) said))

pub returns-in-Err-Device-clause-told : goal.returns-in-Err-Device-clause-told
returns-in-Err-Device-clause-told g c = on_ok c.refuse.result c.refuse.ensures (λ r honest is. inr (c.in-Err-Device.ensures.cause (ap Err c.in-Err-Device.field-0-is), r))

pub returns-in-Err-Damaged-clause-told : goal.returns-in-Err-Damaged-clause-told
returns-in-Err-Damaged-clause-told g c = on_ok c.refuse-in-Err-Damaged.result c.refuse-in-Err-Damaged.ensures (λ r honest is.
    let kept = c.args.frozen.now in
    let image = g.D.Device.image c.args.device.now in
    let offset = c.args.offset in
    let failed = HasFailed (g.D.Device.failures c.args.device.now) (g.D.Device.failures c.blocks_from.new.device) in
    subst (λ n. Says c.args.unique (piece_said kept.geometry (image_view kept.geometry image) offset (c.args.end - offset) (n - offset / 1024) c.args.number) failed c.refuse-in-Err-Damaged.new.reply.items)
    c.blocks_of_size.ensures
    (piece_lacks kept image is c.args.number offset (c.args.end - offset) (c.blocks_of_size.result - offset / 1024) c.args.unique failed c.refuse-in-Err-Damaged.new.reply.items
    (c.in-Err-Damaged.ensures.damaged (ap Err c.in-Err-Damaged.field-0-is)) r))
