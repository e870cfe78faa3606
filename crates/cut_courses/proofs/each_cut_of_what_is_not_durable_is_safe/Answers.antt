use Rattle.cut_courses.proofs.Along.{cut_safely}
use Rattle.cut_courses.proofs.each_cut_of_what_is_not_durable_is_safe.Goals as goal

pub returns : goal.returns
returns c = cut_safely
