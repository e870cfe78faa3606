use Rattle.std.proofs.Common.{refl}
use Rattle.std.proofs.lemmas.Result.{on_ok_weaker}
use Rattle.machine.specs.Command.{Close}
use Rattle.import_tree.proofs.making.close.Goals as goal

pub returns-clause-closed : goal.returns-clause-closed
returns-clause-closed g c = on_ok_weaker c.ask.result (λ asked honest. asked honest (Close c.args.handle) (λ geo. refl)) c.ask.ensures.asked
