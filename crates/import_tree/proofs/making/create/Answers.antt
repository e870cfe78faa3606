use Rattle.std.proofs.Common.{ap}
use Rattle.std.proofs.lemmas.Result.{on_ok_weaker}
use Rattle.machine.specs.Command.{Create}
use Rattle.import_tree.proofs.making.create.Goals as goal

pub returns-clause-made : goal.returns-clause-made
returns-clause-made g c =
    on_ok_weaker c.ask.result (λ asked honest. asked honest (Create c.args.path.now c.args.attributes) (λ geo. ap (λ p. Create p c.args.attributes) (c.in_ok-path.ensures.items_if_clones_equal (λ x y e. e)))) c.ask.ensures.asked
