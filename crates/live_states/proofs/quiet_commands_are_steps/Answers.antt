use Rattle.live_states.proofs.Quiet.{quiet_serves, quiet_step}
use Rattle.live_states.proofs.quiet_commands_are_steps.Goals as goal

pub returns : goal.returns
returns c = λ kept holdings q disk volume seen command answer holdings' done sees beside images. (
  quiet_step kept holdings q disk volume seen command answer holdings' done sees beside images,
  quiet_serves kept holdings q disk volume seen command answer holdings' done sees beside images,
)
