use Rattle.live_states.proofs.Standing.{left_alone}
use Rattle.live_states.proofs.plans_that_leave_holdings_alone.Goals as goal

pub returns : goal.returns
returns c = left_alone
