use Rattle.std.proofs.Common.{◌≡◌, ◌+◌, ◌<◌, [], ap, refl, arith, length, ◌∙◌}
use Rattle.std.proofs.lemmas.Result.{err_from_is_err_and}
use Rattle.frozen.specs.Kept.{Kept, frozen_view}
use Rattle.fuse_wire.specs.declared.bodies.Body.TheVariants as bodies
use Rattle.model.specs.View.{Inode}
use Rattle.fuse_writer.proofs.DoingLemmas.{does_note, does_same, does_say, ends_err, exit_early, on_err, on_ok}
use Rattle.fuse_writer.specs.Doings.{refuses}
use Rattle.fuse_writer.specs.Requests.{writes_between}
use Rattle.fuse_writer.proofs.WriteLemmas.{writes_large, writes_some}
use Rattle.fuse_writer.proofs.bytes.write.Goals as goal

pub returns-in_err-number-clause-does : goal.returns-in_err-number-clause-does
returns-in_err-number-clause-does g c =
    exit_early _ _ _ _ bodies.Written _ _ (err_from_is_err_and c.from_residual.result c.from_residual.ensures.1) refl _ refl (c.in_err-number.ensures _)

pub returns-in_err-handle-clause-does : goal.returns-in_err-handle-clause-does
returns-in_err-handle-clause-does g c =
    exit_early _ _ _ _ bodies.Written _ _ (err_from_is_err_and c.from_residual-in_err-handle.result c.from_residual-in_err-handle.ensures.1) refl _ refl
    (c.in_ok-number.ensures _ ∙ c.in_err-handle.ensures _)

pub returns-then-saturating_add-from-clause-does : goal.returns-then-saturating_add-from-clause-does
returns-then-saturating_add-from-clause-does g c =
    does_same _ _ _ _ _ _ _ (writes_large c.args.mounted.now.asking.volume.kept c.args.mounted.now.session c.args.node c.args.offset c.args.bytes.now _ _ c.in_ok-number.ensures
    c.in_ok-handle.ensures (omega (arith, c.if-saturating_add-from.true, c.from.ensures, c.saturating_add.ensures))) (does_say _ _ _ _ _ _ refl refl refl)

pub returns-in_err-fill_to-clause-does : goal.returns-in_err-fill_to-clause-does
returns-in_err-fill_to-clause-does g c =
    let kept = c.args.mounted.now.asking.volume.kept in
    let i = c.in_ok-number.number in
    let own : c.own.inside.size ≡ ((frozen_view kept).inode i).size =
    ap (λ (r : Inode). r.size) (c.own.view_is ∙ c.record_of.ensures) ∙ ap (λ (k : Kept). ((frozen_view k).inode i).size) c.metadata.ensures in
    let small : c.args.offset + length c.args.bytes.now < 4294967296 = omega (arith, c.if-saturating_add-from.false, c.from.ensures, c.saturating_add.ensures) in
    let e = writes_some kept c.args.mounted.now.session c.args.node c.args.offset c.args.bytes.now i c.in_ok-handle.handle c.in_ok-number.ensures c.in_ok-handle.ensures small
    c.own.inside.size own in
    does_same _ _ _ _ _ _ _ e (does_note _ _ _ _ _ [] _ _ (ends_err _ _ _ _ bodies.Written _ _ _ (err_from_is_err_and c.from_residual-in_err-fill_to.result c.from_residual-in_err-fill_to.ensures.1)
    (on_err _ _ _ _ _ _ _ _ _ c.in_err-fill_to.was
    (rw (c.note.ensures.session, c.note.ensures.asking, c.touched-touched.ensures) at (c.fill_to.ensures.filled (writes_between c.in_ok-handle.handle c.args.offset (c.args.offset + length c.args.bytes.now) c.args.bytes.now) refuses)))))

pub returns-clause-does : goal.returns-clause-does
returns-clause-does g c =
    let kept = c.args.mounted.now.asking.volume.kept in
    let i = c.in_ok-number.number in
    let own : c.own.inside.size ≡ ((frozen_view kept).inode i).size =
    ap (λ (r : Inode). r.size) (c.own.view_is ∙ c.record_of.ensures) ∙ ap (λ (k : Kept). ((frozen_view k).inode i).size) c.metadata.ensures in
    let small : c.args.offset + length c.args.bytes.now < 4294967296 = omega (arith, c.if-saturating_add-from.false, c.from.ensures, c.saturating_add.ensures) in
    let e = writes_some kept c.args.mounted.now.session c.args.node c.args.offset c.args.bytes.now i c.in_ok-handle.handle c.in_ok-number.ensures c.in_ok-handle.ensures small
    c.own.inside.size own in
    does_same _ _ _ _ _ _ _ e (does_note _ _ _ _ _ [] _ _ (on_ok _ _ _ _ _ _ _ _ _ c.in_ok-fill_to.was
    (rw (c.note.ensures.session, c.note.ensures.asking, c.touched-touched.ensures) at (c.fill_to.ensures.filled (writes_between c.in_ok-handle.handle c.args.offset (c.args.offset + length c.args.bytes.now) c.args.bytes.now) refuses)) _ _ _ c.write_between.ensures.does))
