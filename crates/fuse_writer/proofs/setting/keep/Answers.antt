use Rattle.std.proofs.Common.{ap, sym, ◌∙◌}
use Rattle.std.proofs.lemmas.Result.{err_from_is_err_and}
use Rattle.machine.specs.Command.{SetAttributes}
use Rattle.fuse_writer.proofs.DoingLemmas.{on_equal, on_left}
use Rattle.fuse_writer.proofs.SettingLemmas.{keeps_none, keeps_noted, keeps_refused, keeps_settled}
use Rattle.fuse_writer.proofs.setting.keep.Goals as goal

pub returns-then-not-mounted-clause-does : goal.returns-then-not-mounted-clause-does
returns-then-not-mounted-clause-does g c = λ next.
    on_equal _ _ _ _ (keeps_none c.args.mounted.now.session c.args.number c.args.changes.now c.args.attributes next c.if-not-mounted.true)

pub returns-then-not-has_attributes-clause-does : goal.returns-then-not-has_attributes-clause-does
returns-then-not-has_attributes-clause-does g c = λ next.
    rw c.note.ensures.asking (keeps_noted c.args.mounted.now.session c.args.number c.args.changes.now c.args.attributes next _ _ c.if-not-mounted.false
    (sym c.has_attributes.ensures ∙ c.if-not-has_attributes.true) c.note.ensures.session)

pub returns-in_err-ask_done-clause-does : goal.returns-in_err-ask_done-clause-does
returns-in_err-ask_done-clause-does g c = λ next.
    on_left _ _ _ _ _ _ _ _ _ (err_from_is_err_and c.from_residual.result c.from_residual.ensures.1)
    (keeps_refused c.args.mounted.now.session c.args.number c.args.changes.now c.args.attributes next _ _ _ _ c.ask_done.result c.ask_done.ensures.asked
    (λ geo. ap (SetAttributes c.args.number) c.write.ensures) c.ask_done.ensures.session c.if-not-mounted.false (sym c.has_attributes.ensures ∙ c.if-not-has_attributes.false) _ c.in_err-ask_done.was)

pub returns-clause-does : goal.returns-clause-does
returns-clause-does g c = λ next.
    rw c.clear.ensures.asking (keeps_settled c.args.mounted.now.session c.args.number c.args.changes.now c.args.attributes next _ _ _ _ c.ask_done.result c.ask_done.ensures.asked
    (λ geo. ap (SetAttributes c.args.number) c.write.ensures) c.ask_done.ensures.session c.if-not-mounted.false (sym c.has_attributes.ensures ∙ c.if-not-has_attributes.false) _ _ c.in_ok-ask_done.was c.clear.ensures.session)
