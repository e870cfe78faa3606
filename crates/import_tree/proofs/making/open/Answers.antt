use Rattle.std.proofs.Common.{ap}
use Rattle.machine.specs.Command.{Open}
use Rattle.import_tree.proofs.making.open.Goals as goal

pub returns-in-Ok-clause-opened : goal.returns-in-Ok-clause-opened
returns-in-Ok-clause-opened g c = λ honest.
    c.in_ok-answer.ensures.asked honest (Open c.args.path.now) (λ geo. ap Open (c.in_ok-to_vec.ensures.items_if_clones_equal (λ x y e. e)))
