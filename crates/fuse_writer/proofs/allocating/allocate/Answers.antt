use Rattle.std.proofs.Common.{◌≡◌, ◌≤◌, ◌+◌, ◌<◌, [], ap, refl, arith, ◌∙◌}
use Rattle.std.proofs.lemmas.Result.{err_from_is_err_and}
use Rattle.frozen.specs.Kept.{Kept, frozen_view}
use Rattle.fuse_wire.specs.declared.bodies.Body.TheVariants as bodies
use Rattle.model.specs.View.{Inode}
use Rattle.fuse_writer.specs.Ahead.{touches}
use Rattle.fuse_writer.specs.Doings.{Notes, says_done}
use Rattle.fuse_writer.specs.Turns.{Turn}
use Rattle.fuse_writer.proofs.DoingLemmas.{does_note, does_same, does_say, ends_err, exit_early, on_err, on_ok}
use Rattle.fuse_writer.proofs.RoomLemmas.{allocates_else, allocates_here, room_far, room_made, room_there}
use Rattle.fuse_writer.proofs.allocating.allocate.Goals as goal

pub returns-then-mode-ne0-clause-does : goal.returns-then-mode-ne0-clause-does
returns-then-mode-ne0-clause-does g c =
    does_same _ _ _ _ _ _ _ (allocates_else c.args.mounted.now.asking.volume.kept c.args.mounted.now.session c.args.node c.args.offset c.args.bytes c.args.mode c.if-mode-ne0.true)
    (does_say _ _ _ _ _ _ refl refl refl)

pub returns-in_err-number-clause-does : goal.returns-in_err-number-clause-does
returns-in_err-number-clause-does g c =
    exit_early _ _ _ _ (λ _. bodies.Empty) _ _ (err_from_is_err_and c.from_residual.result c.from_residual.ensures.1) refl _ refl
    (allocates_here c.args.mounted.now.asking.volume.kept c.args.mounted.now.session c.args.node c.args.offset c.args.bytes c.args.mode c.if-mode-ne0.false ∙ c.in_err-number.ensures _)

pub returns-in_err-handle-clause-does : goal.returns-in_err-handle-clause-does
returns-in_err-handle-clause-does g c =
    exit_early _ _ _ _ (λ _. bodies.Empty) _ _ (err_from_is_err_and c.from_residual-in_err-handle.result c.from_residual-in_err-handle.ensures.1) refl _ refl
    (allocates_here c.args.mounted.now.asking.volume.kept c.args.mounted.now.session c.args.node c.args.offset c.args.bytes c.args.mode c.if-mode-ne0.false
    ∙ c.in_ok-number.ensures _ ∙ c.in_err-handle.ensures _)

pub returns-then-end-from-clause-does : goal.returns-then-end-from-clause-does
returns-then-end-from-clause-does g c =
    let kept = c.args.mounted.now.asking.volume.kept in
    let s = c.args.mounted.now.session in
    let far : 4294967296 ≤ c.args.offset + c.args.bytes = omega (arith, c.if-end-from.true, c.from.ensures, c.saturating_add-end.ensures) in
    does_same _ _ _ _ _ _ _ (allocates_here kept s c.args.node c.args.offset c.args.bytes c.args.mode c.if-mode-ne0.false ∙ c.in_ok-number.ensures _ ∙ c.in_ok-handle.ensures _
    ∙ room_far kept s c.in_ok-number.number (c.args.offset + c.args.bytes) c.in_ok-handle.handle _ refl far) (does_say _ _ _ _ _ _ refl refl refl)

pub returns-then-end-from-2-clause-does : goal.returns-then-end-from-2-clause-does
returns-then-end-from-2-clause-does g c =
    let kept = c.args.mounted.now.asking.volume.kept in
    let s = c.args.mounted.now.session in
    let i = c.in_ok-number.number in
    let own : c.own.inside.size ≡ ((frozen_view kept).inode i).size =
    ap (λ (r : Inode). r.size) (c.own.view_is ∙ c.record_of.ensures) ∙ ap (λ (k : Kept). ((frozen_view k).inode i).size) c.metadata.ensures in
    let small : c.args.offset + c.args.bytes < 4294967296 = omega (arith, c.if-end-from.false, c.from.ensures, c.saturating_add-end.ensures) in
    let within : c.args.offset + c.args.bytes ≤ c.own.inside.size = omega (arith, c.if-end-from-2.true, c.from-2.ensures, c.saturating_add-end.ensures, small) in
    does_same _ _ _ _ _ _ _ (allocates_here kept s c.args.node c.args.offset c.args.bytes c.args.mode c.if-mode-ne0.false ∙ c.in_ok-number.ensures _ ∙ c.in_ok-handle.ensures _
    ∙ room_there kept s i (c.args.offset + c.args.bytes) c.in_ok-handle.handle c.own.inside.size own small within) (does_say _ _ _ _ _ _ refl refl refl)

pub returns-in_err-lengthen-clause-does : goal.returns-in_err-lengthen-clause-does
returns-in_err-lengthen-clause-does g c =
    let kept = c.args.mounted.now.asking.volume.kept in
    let s = c.args.mounted.now.session in
    let i = c.in_ok-number.number in
    let own : c.own.inside.size ≡ ((frozen_view kept).inode i).size =
    ap (λ (r : Inode). r.size) (c.own.view_is ∙ c.record_of.ensures) ∙ ap (λ (k : Kept). ((frozen_view k).inode i).size) c.metadata.ensures in
    let small : c.args.offset + c.args.bytes < 4294967296 = omega (arith, c.if-end-from.false, c.from.ensures, c.saturating_add-end.ensures) in
    let end : c.saturating_add-end.result ≡ c.args.offset + c.args.bytes = omega (arith, c.saturating_add-end.ensures, small) in
    let beyond : c.own.inside.size < c.args.offset + c.args.bytes = omega (arith, c.if-end-from-2.false, c.from-2.ensures, end) in
    does_same _ _ _ _ _ _ _ (allocates_here kept s c.args.node c.args.offset c.args.bytes c.args.mode c.if-mode-ne0.false ∙ c.in_ok-number.ensures _ ∙ c.in_ok-handle.ensures _
    ∙ room_made kept s i (c.args.offset + c.args.bytes) c.in_ok-handle.handle c.own.inside.size own small beyond)
    (ends_err _ _ _ _ (λ _. bodies.Empty) _ _ _ (err_from_is_err_and c.from_residual-in_err-lengthen.result c.from_residual-in_err-lengthen.ensures.1)
    (on_err _ _ _ _ _ _ _ _ _ c.in_err-lengthen.was (rw end at (c.lengthen.ensures.does (Notes [] (touches kept s i) says_done)))))

pub returns-clause-does : goal.returns-clause-does
returns-clause-does g c =
    let kept = c.args.mounted.now.asking.volume.kept in
    let s = c.args.mounted.now.session in
    let i = c.in_ok-number.number in
    let own : c.own.inside.size ≡ ((frozen_view kept).inode i).size =
    ap (λ (r : Inode). r.size) (c.own.view_is ∙ c.record_of.ensures) ∙ ap (λ (k : Kept). ((frozen_view k).inode i).size) c.metadata.ensures in
    let small : c.args.offset + c.args.bytes < 4294967296 = omega (arith, c.if-end-from.false, c.from.ensures, c.saturating_add-end.ensures) in
    let end : c.saturating_add-end.result ≡ c.args.offset + c.args.bytes = omega (arith, c.saturating_add-end.ensures, small) in
    let beyond : c.own.inside.size < c.args.offset + c.args.bytes = omega (arith, c.if-end-from-2.false, c.from-2.ensures, end) in
    does_same _ _ _ _ _ _ _ (allocates_here kept s c.args.node c.args.offset c.args.bytes c.args.mode c.if-mode-ne0.false ∙ c.in_ok-number.ensures _ ∙ c.in_ok-handle.ensures _
    ∙ room_made kept s i (c.args.offset + c.args.bytes) c.in_ok-handle.handle c.own.inside.size own small beyond)
    ((on_ok _ _ _ _ _ _ _ _ _ c.in_ok-lengthen.was (rw end at (c.lengthen.ensures.does (Notes [] (touches kept s i) says_done)))) _ _ _
    (does_note _ _ _ _ _ [] _ _ (does_say _ _ _ _ _ _ (ap (λ (t : Turn _). t.calls) c.note.ensures.asking) refl
    (rw (c.note.ensures.session, c.touched-touched.ensures, c.lengthen.ensures.session)))))
