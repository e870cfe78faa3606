use Rattle.live_states.proofs.Planning.{keeps', volume'}
use Rattle.live_states.proofs.planned_commands_keep_volumes.Goals as goal

pub returns : goal.returns
returns c = λ kept holdings q disk keeps volume seen command answer draft holdings' planned sees staged is. (
  volume' kept holdings q disk volume seen command answer draft holdings' planned sees keeps staged is,
  keeps' kept holdings q disk volume seen command answer draft holdings' planned sees keeps staged is,
)
