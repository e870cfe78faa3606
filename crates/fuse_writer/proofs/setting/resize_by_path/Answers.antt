use Rattle.std.proofs.Common.{refl}
use Rattle.std.proofs.lemmas.Result.{err_from_is_err_and}
use Rattle.fuse_writer.proofs.DoingLemmas.{on_ask, on_done, on_err, on_given, on_left, on_not_given, on_ok, on_then}
use Rattle.fuse_writer.proofs.SettingLemmas.{by_no_path, by_path, closing_on}
use Rattle.fuse_writer.specs.Doings.{refuses}
use Rattle.fuse_writer.proofs.setting.resize_by_path.Goals as goal

pub returns-in_err-path-clause-does : goal.returns-in_err-path-clause-does
returns-in_err-path-clause-does g c = λ next.
    on_left _ _ _ _ _ _ _ _ _ (err_from_is_err_and c.from_residual.result c.from_residual.ensures.1)
    (by_no_path c.args.mounted.now.session c.args.number c.args.own c.args.size next _ _ c.in_err-path.ensures)

pub returns-in_err-handle-clause-does : goal.returns-in_err-handle-clause-does
returns-in_err-handle-clause-does g c = λ next.
    on_left _ _ _ _ _ _ _ _ _ (err_from_is_err_and c.from_residual-in_err-handle.result c.from_residual-in_err-handle.ensures.1)
    (on_not_given _ _ _ _ _ _ _ _ c.in_err-handle.was
    (by_path c.args.mounted.now.session c.args.number c.args.own c.args.size next _ _ _ _ _ _ c.in_ok-path.ensures c.ask_number.ensures.asked (λ geo. refl) c.ask_number.ensures.session))

pub returns-in_err-outcome-clause-does : goal.returns-in_err-outcome-clause-does
returns-in_err-outcome-clause-does g c = λ next.
    let s = c.args.mounted.now.session in
    let opened = c.ask_number.new.self in
    let resized = c.resize-outcome.new.mounted in
    let new = c.ask_done-closed.new.self in
    on_left _ _ _ _ _ _ _ _ _ (err_from_is_err_and c.from_residual-in_err-outcome.result c.from_residual-in_err-outcome.ensures.1)
    (on_then _ _ _ _ _ _ _ _ _
    (on_given _ _ _ _ _ _ _ _ c.in_ok-handle.was
    (by_path s c.args.number c.args.own c.args.size next _ opened.asking opened.session _ _ _ c.in_ok-path.ensures c.ask_number.ensures.asked (λ geo. refl) c.ask_number.ensures.session))
    (on_then _ _ _ _ _ _ _ _ _
    (on_err _ _ _ _ _ _ _ _ _ c.in_err-outcome.was
    (closing_on s c.args.number c.args.own c.args.size next opened.asking resized.asking opened.session resized.session c.in_ok-handle.handle _ c.ask_number.ensures.session c.resize-outcome.ensures.does))
    (on_ask resized.asking new.asking resized.session new.session _ _ _ _ c.ask_done-closed.ensures.asked.grew (λ geo. refl) c.ask_done-closed.ensures.session)))

pub returns-clause-does : goal.returns-clause-does
returns-clause-does g c = λ next.
    let s = c.args.mounted.now.session in
    let opened = c.ask_number.new.self in
    let resized = c.resize-outcome.new.mounted in
    let new = c.ask_done-closed.new.self in
    on_then _ _ _ _ _ _ _ _ _
    (on_given _ _ _ _ _ _ _ _ c.in_ok-handle.was
    (by_path s c.args.number c.args.own c.args.size next _ opened.asking opened.session _ _ _ c.in_ok-path.ensures c.ask_number.ensures.asked (λ geo. refl) c.ask_number.ensures.session))
    (on_then _ _ _ _ _ _ _ _ _
    (on_ok _ _ _ _ _ _ _ _ _ c.in_ok-outcome.was
    (closing_on s c.args.number c.args.own c.args.size next opened.asking resized.asking opened.session resized.session c.in_ok-handle.handle _ c.ask_number.ensures.session c.resize-outcome.ensures.does))
    (on_done resized.asking new.asking resized.session new.session _ _ _ c.ask_done-closed.ensures.asked (λ geo. refl) c.ask_done-closed.ensures.session next refuses))
