use Rattle.live_states.proofs.Quiet.{quiet_volume}
use Rattle.live_states.proofs.quiet_commands_keep_volumes.Goals as goal

pub returns : goal.returns
returns c = quiet_volume
