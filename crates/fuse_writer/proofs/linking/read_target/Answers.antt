use Rattle.std.proofs.Common.{◌≡◌, ap, refl, ◌∙◌}
use Rattle.std.proofs.lemmas.Result.{err_from_is_err_and}
use Rattle.frozen.specs.Kept.{Kept, frozen_view}
use Rattle.machine.specs.Command.{Close}
use Rattle.model.specs.View.{Inode}
use Rattle.fuse_writer.specs.Doings.{Asks, asks_done, refuses}
use Rattle.fuse_writer.specs.Requests.{says_bytes}
use Rattle.fuse_writer.proofs.DoingLemmas.{does_say, on_err, on_given, on_not_given, on_ok, on_then}
use Rattle.fuse_writer.proofs.LinkLemmas.{ends_refused, target_closed, target_no_path, target_opened, target_refused}
use Rattle.fuse_writer.proofs.linking.read_target.Goals as goal

pub returns-in_err-path-clause-does : goal.returns-in_err-path-clause-does
returns-in_err-path-clause-does g c =
    let kept = c.args.mounted.now.asking.volume.kept in
    let s = c.args.mounted.now.session in
    let own : c.size.inside.size ≡ ((frozen_view kept).inode c.args.number).size =
    ap (λ (r : Inode). r.size) (c.size.view_is ∙ c.record_of.ensures) ∙ ap (λ (k : Kept). ((frozen_view k).inode c.args.number).size) c.metadata.ensures in
    ends_refused _ _ _ _ (λ bytes. bytes.items) _ _ _ (err_from_is_err_and c.from_residual.result c.from_residual.ensures.1)
    (target_no_path kept s c.args.number _ own _ _ c.in_err-path.ensures)

pub returns-in_err-handle-clause-does : goal.returns-in_err-handle-clause-does
returns-in_err-handle-clause-does g c =
    let kept = c.args.mounted.now.asking.volume.kept in
    let s = c.args.mounted.now.session in
    let own : c.size.inside.size ≡ ((frozen_view kept).inode c.args.number).size =
    ap (λ (r : Inode). r.size) (c.size.view_is ∙ c.record_of.ensures) ∙ ap (λ (k : Kept). ((frozen_view k).inode c.args.number).size) c.metadata.ensures in
    let opened = c.ask_number.new.self in
    ends_refused _ _ _ _ (λ bytes. bytes.items) _ _ _ (err_from_is_err_and c.from_residual-in_err-handle.result c.from_residual-in_err-handle.ensures.1)
    (on_not_given _ _ _ _ _ _ _ _ c.in_err-handle.was
    (target_opened kept s c.args.number _ own _ opened.asking opened.session _ _ _ c.in_ok-path.ensures c.ask_number.ensures.asked (λ geo. refl) c.ask_number.ensures.session))

pub returns-in_err-bytes-clause-does : goal.returns-in_err-bytes-clause-does
returns-in_err-bytes-clause-does g c =
    let kept = c.args.mounted.now.asking.volume.kept in
    let s = c.args.mounted.now.session in
    let own : c.size.inside.size ≡ ((frozen_view kept).inode c.args.number).size =
    ap (λ (r : Inode). r.size) (c.size.view_is ∙ c.record_of.ensures) ∙ ap (λ (k : Kept). ((frozen_view k).inode c.args.number).size) c.metadata.ensures in
    let opened = c.ask_number.new.self in
    let read = c.read_between-target.new.mounted in
    let new = c.ask_done-closed.new.self in
    let handle = c.in_ok-handle.handle in
    let begun = on_given _ _ _ _ _ _ _ _ c.in_ok-handle.was
    (target_opened kept s c.args.number _ own _ opened.asking opened.session _ _ _ c.in_ok-path.ensures c.ask_number.ensures.asked (λ geo. refl) c.ask_number.ensures.session) in
    let reading = rw c.min.ensures at (c.read_between-target.ensures.does (λ bytes. asks_done (Close handle) (says_bytes bytes)) (λ error. Asks (Close handle) (λ reply. refuses error))) in
    let on = on_then _ _ _ _ _ _ _ _ _ begun reading in
    ends_refused _ _ _ _ (λ bytes. bytes.items) _ _ _ (err_from_is_err_and c.from_residual-in_err-bytes.result c.from_residual-in_err-bytes.ensures.1)
    (target_refused _ _ read.asking new.asking _ read.session new.session handle (λ bytes. bytes.items) _ _ c.ask_done-closed.result on c.ask_done-closed.ensures.asked (λ geo. refl)
    c.ask_done-closed.ensures.session _ c.in_err-bytes.was)

pub returns-in_err-closed-clause-does : goal.returns-in_err-closed-clause-does
returns-in_err-closed-clause-does g c =
    let kept = c.args.mounted.now.asking.volume.kept in
    let s = c.args.mounted.now.session in
    let own : c.size.inside.size ≡ ((frozen_view kept).inode c.args.number).size =
    ap (λ (r : Inode). r.size) (c.size.view_is ∙ c.record_of.ensures) ∙ ap (λ (k : Kept). ((frozen_view k).inode c.args.number).size) c.metadata.ensures in
    let opened = c.ask_number.new.self in
    let read = c.read_between-target.new.mounted in
    let new = c.ask_done-closed.new.self in
    let handle = c.in_ok-handle.handle in
    let begun = on_given _ _ _ _ _ _ _ _ c.in_ok-handle.was
    (target_opened kept s c.args.number _ own _ opened.asking opened.session _ _ _ c.in_ok-path.ensures c.ask_number.ensures.asked (λ geo. refl) c.ask_number.ensures.session) in
    let reading = rw c.min.ensures at (c.read_between-target.ensures.does (λ bytes. asks_done (Close handle) (says_bytes bytes)) (λ error. Asks (Close handle) (λ reply. refuses error))) in
    let on = on_then _ _ _ _ _ _ _ _ _ begun reading in
    ends_refused _ _ _ _ (λ bytes. bytes.items) _ _ _ (err_from_is_err_and c.from_residual-in_err-closed.result c.from_residual-in_err-closed.ensures.1)
    (on_err _ _ _ _ _ _ _ _ _ c.in_err-closed.was
    (target_closed _ _ read.asking new.asking _ read.session new.session handle (λ bytes. bytes.items) _ _ c.ask_done-closed.result on c.ask_done-closed.ensures.asked (λ geo. refl)
    c.ask_done-closed.ensures.session _ c.in_ok-bytes.was))

pub returns-clause-does : goal.returns-clause-does
returns-clause-does g c =
    let kept = c.args.mounted.now.asking.volume.kept in
    let s = c.args.mounted.now.session in
    let own : c.size.inside.size ≡ ((frozen_view kept).inode c.args.number).size =
    ap (λ (r : Inode). r.size) (c.size.view_is ∙ c.record_of.ensures) ∙ ap (λ (k : Kept). ((frozen_view k).inode c.args.number).size) c.metadata.ensures in
    let opened = c.ask_number.new.self in
    let read = c.read_between-target.new.mounted in
    let new = c.ask_done-closed.new.self in
    let handle = c.in_ok-handle.handle in
    let begun = on_given _ _ _ _ _ _ _ _ c.in_ok-handle.was
    (target_opened kept s c.args.number _ own _ opened.asking opened.session _ _ _ c.in_ok-path.ensures c.ask_number.ensures.asked (λ geo. refl) c.ask_number.ensures.session) in
    let reading = rw c.min.ensures at (c.read_between-target.ensures.does (λ bytes. asks_done (Close handle) (says_bytes bytes)) (λ error. Asks (Close handle) (λ reply. refuses error))) in
    let on = on_then _ _ _ _ _ _ _ _ _ begun reading in
    on_ok _ _ _ _ _ _ _ _ _ c.in_ok-closed.was
    (target_closed _ _ read.asking new.asking _ read.session new.session handle (λ bytes. bytes.items) _ _ c.ask_done-closed.result on c.ask_done-closed.ensures.asked (λ geo. refl)
    c.ask_done-closed.ensures.session _ c.in_ok-bytes.was) _ _ _ (does_say _ _ _ _ _ _ refl refl refl)
