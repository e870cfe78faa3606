use Rattle.replies.proofs.Causes.{step_not_full}
use Rattle.replies.proofs.no_step_refuses_for_a_full_trace.Goals as goal

pub returns : goal.returns
returns c = step_not_full
