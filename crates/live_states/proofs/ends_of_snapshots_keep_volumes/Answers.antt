use Rattle.live_states.proofs.SnapshotEnds.{let_go_keeps, let_go_volume}
use Rattle.live_states.proofs.ends_of_snapshots_keep_volumes.Goals as goal

pub returns : goal.returns
returns c = λ kept holdings disk keeps volume s stands updates list staged is. (
  let_go_volume kept holdings disk keeps volume s stands updates list staged is,
  let_go_keeps kept holdings disk keeps volume s stands updates list staged is,
)
