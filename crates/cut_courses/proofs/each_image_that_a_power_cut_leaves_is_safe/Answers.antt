use Rattle.cut_courses.proofs.Along.{left_safely}
use Rattle.cut_courses.proofs.each_image_that_a_power_cut_leaves_is_safe.Goals as goal

pub returns : goal.returns
returns c = left_safely
