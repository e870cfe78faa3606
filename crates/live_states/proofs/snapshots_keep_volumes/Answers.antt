use Rattle.live_states.proofs.Snapshots.{kept_volume}
use Rattle.live_states.proofs.snapshots_keep_volumes.Goals as goal

pub returns : goal.returns
returns c = λ kept holdings disk volume room snapshot settles. kept_volume kept holdings disk volume room snapshot settles
