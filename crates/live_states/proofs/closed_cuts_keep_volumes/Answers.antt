use Rattle.live_states.proofs.Standing.{put, unseen}
use Rattle.live_states.proofs.closed_cuts_keep_volumes.Goals as goal

pub returns : goal.returns
returns c = λ kept holdings q disk volume cut closed. (put kept holdings q disk volume cut closed, unseen kept holdings q disk volume cut closed)
