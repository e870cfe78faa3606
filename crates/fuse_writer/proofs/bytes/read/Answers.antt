use Rattle.std.proofs.Common.{◌≡◌, ◌+◌, min, ap, refl, arith, ◌∙◌}
use Rattle.std.proofs.lemmas.Result.{err_from_is_err_and}
use Rattle.frozen.specs.Kept.{Kept, frozen_view}
use Rattle.model.specs.View.{Inode}
use Rattle.fuse_reader.specs.Pieces.{piece_end}
use Rattle.fuse_reader.specs.Said as said
use Rattle.fuse_writer.proofs.BytesLemmas.{ends_bytes, reads_large, reads_none, reads_small, reads_some}
use Rattle.fuse_writer.proofs.DoingLemmas.{does_same, does_say, listing_left}
use Rattle.fuse_writer.specs.Doings.{refuses}
use Rattle.fuse_writer.specs.Requests.{says_bytes}
use Rattle.fuse_writer.proofs.bytes.read.Goals as goal

pub returns-in_err-number-clause-does : goal.returns-in_err-number-clause-does
returns-in_err-number-clause-does g c =
    listing_left _ _ _ _ _ _ (c.in_err-number.ensures _) (err_from_is_err_and c.from_residual.result c.from_residual.ensures.1)

pub returns-then-size-gt-MOST_BYTES-clause-does : goal.returns-then-size-gt-MOST_BYTES-clause-does
returns-then-size-gt-MOST_BYTES-clause-does g c =
    does_same _ _ _ _ _ _ _ (reads_large c.args.mounted.now.asking.volume.kept c.args.mounted.now.session c.args.node c.args.offset c.args.size _ c.in_ok-number.ensures
    (omega (arith, c.if-size-gt-MOST_BYTES.true))) (does_say _ _ _ _ _ _ refl refl refl)

pub returns-in_err-handle-clause-does : goal.returns-in_err-handle-clause-does
returns-in_err-handle-clause-does g c =
    listing_left _ _ _ _ _ _ (reads_small c.args.mounted.now.asking.volume.kept c.args.mounted.now.session c.args.node c.args.offset c.args.size _ c.in_ok-number.ensures
    (omega (arith, c.if-size-gt-MOST_BYTES.false)) ∙ c.in_err-handle.ensures _) (err_from_is_err_and c.from_residual-in_err-handle.result c.from_residual-in_err-handle.ensures.1)

pub returns-then-offset-end-clause-does : goal.returns-then-offset-end-clause-does
returns-then-offset-end-clause-does g c =
    let kept = c.args.mounted.now.asking.volume.kept in
    let i = c.in_ok-number.number in
    let end : c.end_of-end.result ≡ piece_end (frozen_view kept) i c.args.offset c.args.size =
    c.end_of-end.ensures ∙ ap (min (c.args.offset + c.args.size)) c.from.ensures ∙ ap (λ (r : Inode). min (c.args.offset + c.args.size) r.size) (c.file.view_is ∙ c.record_of.ensures)
    ∙ ap (λ (k : Kept). piece_end (frozen_view k) i c.args.offset c.args.size) c.metadata.ensures in
    does_same _ _ _ _ _ _ _ (reads_none kept c.args.mounted.now.session c.args.node c.args.offset c.args.size _ c.in_ok-number.ensures
    (omega (arith, c.if-size-gt-MOST_BYTES.false)) _ c.in_ok-handle.ensures c.end_of-end.result end c.if-offset-end.true)
    (does_say _ _ _ _ _ _ refl (ap said.Told c.new.ensures.items) refl)

pub returns-clause-does : goal.returns-clause-does
returns-clause-does g c =
    let kept = c.args.mounted.now.asking.volume.kept in
    let i = c.in_ok-number.number in
    let end : c.end_of-end.result ≡ piece_end (frozen_view kept) i c.args.offset c.args.size =
    c.end_of-end.ensures ∙ ap (min (c.args.offset + c.args.size)) c.from.ensures ∙ ap (λ (r : Inode). min (c.args.offset + c.args.size) r.size) (c.file.view_is ∙ c.record_of.ensures)
    ∙ ap (λ (k : Kept). piece_end (frozen_view k) i c.args.offset c.args.size) c.metadata.ensures in
    does_same _ _ _ _ _ _ _ (reads_some kept c.args.mounted.now.session c.args.node c.args.offset c.args.size _ c.in_ok-number.ensures
    (omega (arith, c.if-size-gt-MOST_BYTES.false)) _ c.in_ok-handle.ensures c.end_of-end.result end c.if-offset-end.false)
    (ends_bytes _ _ _ _ (λ bytes. bytes.items) c.read_between.result _ (c.read_between.ensures.does says_bytes refuses))

pub read_between-requires : goal.read_between-requires
read_between-requires g c =
    record { ordered = omega (arith, c.if-offset-end.false); small = omega (arith, c.end_of-end.ensures, c.if-size-gt-MOST_BYTES.false) }
