use Rattle.std.proofs.Common.{ap}
use Rattle.std.proofs.lemmas.Result.{err_from_is_err_and}
use Rattle.machine.specs.Command.{SetAttributes}
use Rattle.fuse_writer.proofs.DoingLemmas.{on_left}
use Rattle.fuse_writer.proofs.EndLemmas.{settles_none, settles_not, settles_so}
use Rattle.fuse_writer.proofs.settling.settle.Goals as goal

pub returns-in_default-clause-does : goal.returns-in_default-clause-does
returns-in_default-clause-does g c = λ next refused. settles_none c.args.mounted.now.session c.args.number next refused _ c.in_default.ensures

pub returns-in_err-ask_settled-clause-does : goal.returns-in_err-ask_settled-clause-does
returns-in_err-ask_settled-clause-does g c = λ next refused.
    on_left _ _ _ _ _ _ _ _ _ (err_from_is_err_and c.from_residual.result c.from_residual.ensures.1)
    (settles_not c.args.mounted.now.session c.args.number next refused _ _ _ c.in-Some.attributes c.in-Some.ensures _ c.ask_settled.result c.ask_settled.ensures.asked
    (λ geo. ap (SetAttributes c.args.number) c.write.ensures) c.ask_settled.ensures.session _ c.in_err-ask_settled.was)

pub returns-clause-does : goal.returns-clause-does
returns-clause-does g c = λ next refused.
    rw c.clear.ensures.asking (settles_so c.args.mounted.now.session c.args.number next refused _ _ _ c.in-Some.attributes c.in-Some.ensures _ c.ask_settled.result c.ask_settled.ensures.asked
    (λ geo. ap (SetAttributes c.args.number) c.write.ensures) c.ask_settled.ensures.session _ _ c.in_ok-ask_settled.was c.clear.ensures.session)
