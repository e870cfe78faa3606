use Rattle.std.proofs.Common.{ap}
use Rattle.std.proofs.lemmas.Result.{on_ok_weaker}
use Rattle.machine.specs.Command.{Mkdir}
use Rattle.import_tree.proofs.making.make_folder.Goals as goal

pub returns-clause-made : goal.returns-clause-made
returns-clause-made g c =
    on_ok_weaker c.ask.result (λ asked honest. asked honest (Mkdir c.args.path.now c.args.attributes) (λ geo. ap (λ p. Mkdir p c.args.attributes) (c.in_ok-path.ensures.items_if_clones_equal (λ x y e. e)))) c.ask.ensures.asked
