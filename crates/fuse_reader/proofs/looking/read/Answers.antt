use Rattle.std.proofs.Common.{◌≡◌, ◌+◌, sym, ap, ◌∙◌, arith, min, inl}
use Rattle.device.specs.Writes.{HasFailed}
use Rattle.frozen.specs.Kept.{frozen_view}
use Rattle.model.specs.Image.{image_view}
use Rattle.model.specs.View.{Inode}
use Rattle.fuse_reader.specs.Pieces.{piece_end}
use Rattle.fuse_reader.specs.Said.{spelled}
use Rattle.fuse_reader.specs.Turns.{read_said}
use Rattle.fuse_reader.proofs.SameLemmas.{on_ok, read_nothing, read_of, read_of_directory, says_on}
use Rattle.fuse_reader.proofs.looking.read.Goals as goal

pub returns-then-is_directory_at-clause-told : goal.returns-then-is_directory_at-clause-told
returns-then-is_directory_at-clause-told g c = on_ok c.refuse-then-is_directory_at.result c.refuse-then-is_directory_at.ensures (λ r honest is.
    let kept = c.args.frozen.now in
    let image = g.D.Device.image c.args.device.now in
    says_on (read_said kept.geometry (image_view kept.geometry image) c.args.offset c.args.size) c.args.number c.in-Some.number c.args.size c.args.unique _ _ c.in-Some.is
    (omega (arith, c.if-size-gt-MOST_BYTES.false))
    (inl (r ∙ ap (spelled c.args.unique) (sym (read_of_directory kept image is c.in-Some.number c.args.offset c.args.size (sym c.is_directory_at.ensures ∙ c.if-is_directory_at.true))))))

pub returns-then-offset-end-clause-told : goal.returns-then-offset-end-clause-told
returns-then-offset-end-clause-told g c = on_ok c.tell_bytes.result c.tell_bytes.ensures (λ r honest is.
    let kept = c.args.frozen.now in
    let image = g.D.Device.image c.args.device.now in
    let i = c.in-Some.number in
    let end : c.end_of-end.result ≡ piece_end (frozen_view kept) i c.args.offset c.args.size =
    c.end_of-end.ensures ∙ ap (min (c.args.offset + c.args.size)) c.from-2.ensures
    ∙ ap (λ (r : Inode). min (c.args.offset + c.args.size) r.size) (c.from.view_is ∙ c.record_of.ensures) in
    says_on (read_said kept.geometry (image_view kept.geometry image) c.args.offset c.args.size) c.args.number i c.args.size c.args.unique _ _ c.in-Some.is
    (omega (arith, c.if-size-gt-MOST_BYTES.false))
    (inl (r ∙ ap (spelled c.args.unique)
    (sym (read_nothing kept image is i c.args.offset c.args.size c.end_of-end.result (sym c.is_directory_at.ensures ∙ c.if-is_directory_at.false) end c.if-offset-end.true)))))

pub returns-clause-told : goal.returns-clause-told
returns-clause-told g c = on_ok c.tell_piece.result c.tell_piece.ensures.told (λ h honest is.
    let kept = c.args.frozen.now in
    let image = g.D.Device.image c.args.device.now in
    let i = c.in-Some.number in
    let failed = HasFailed (g.D.Device.failures c.args.device.now) (g.D.Device.failures c.tell_piece.new.device) in
    let end : c.end_of-end.result ≡ piece_end (frozen_view kept) i c.args.offset c.args.size =
    c.end_of-end.ensures ∙ ap (min (c.args.offset + c.args.size)) c.from-2.ensures
    ∙ ap (λ (r : Inode). min (c.args.offset + c.args.size) r.size) (c.from.view_is ∙ c.record_of.ensures) in
    says_on (read_said kept.geometry (image_view kept.geometry image) c.args.offset c.args.size) c.args.number i c.args.size c.args.unique failed c.tell_piece.new.reply.items c.in-Some.is
    (omega (arith, c.if-size-gt-MOST_BYTES.false))
    (read_of kept image is i c.args.offset c.args.size c.end_of-end.result (sym c.is_directory_at.ensures ∙ c.if-is_directory_at.false) end c.args.unique failed
    c.tell_piece.new.reply.items c.if-offset-end.false (h honest is)))
