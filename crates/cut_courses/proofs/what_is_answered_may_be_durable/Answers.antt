use Rattle.cut_courses.proofs.Along.{answered}
use Rattle.cut_courses.proofs.what_is_answered_may_be_durable.Goals as goal

pub returns : goal.returns
returns c = answered
