use Rattle.cut_courses.proofs.Lifted.{lifted}
use Rattle.cut_courses.proofs.plans_are_of_what_users_see.Goals as goal

pub returns : goal.returns
returns c geo disk q old safe file p held' safe' plan durable unsynced same = lifted geo disk q old safe durable unsynced same file p held' safe' plan
