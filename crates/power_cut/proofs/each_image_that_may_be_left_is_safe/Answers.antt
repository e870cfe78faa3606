use Rattle.power_cut.proofs.ImageLemmas.{left_of_medium, safely_left}
use Rattle.power_cut.proofs.each_image_that_may_be_left_is_safe.Goals as goal

pub returns-clause-blocks : goal.returns-clause-blocks
returns-clause-blocks c = left_of_medium

pub returns-clause-safe : goal.returns-clause-safe
returns-clause-safe c = safely_left
