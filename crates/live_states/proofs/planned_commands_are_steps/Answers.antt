use Rattle.live_states.proofs.Planning.{is_served, steps}
use Rattle.live_states.proofs.planned_commands_are_steps.Goals as goal

pub returns : goal.returns
returns c = λ kept holdings q disk volume seen command answer draft holdings' planned sees beside images. (
  steps kept holdings q disk volume seen command answer draft holdings' planned sees beside images,
  is_served kept holdings q disk volume seen command answer draft holdings' planned sees beside images,
)
