use Rattle.std.proofs.Common.{ap₂}
use Rattle.std.proofs.lemmas.Result.{on_ok_weaker}
use Rattle.machine.specs.Command.{Link}
use Rattle.import_tree.proofs.making.make_link.Goals as goal

pub returns-clause-made : goal.returns-clause-made
returns-clause-made g c =
    on_ok_weaker c.ask.result (λ asked honest. asked honest (Link c.args.path.now c.args.name.now) (λ geo. ap₂ Link (c.in_ok-path.ensures.items_if_clones_equal (λ x y e. e)) (c.in_ok-name.ensures.items_if_clones_equal (λ x y e. e)))) c.ask.ensures.asked
