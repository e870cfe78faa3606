use Rattle.live_states.proofs.Standing.{stands_so, stands_with}
use Rattle.live_states.proofs.volumes_stand.Goals as goal

pub returns : goal.returns
returns c = λ kept holdings q disk volume. (stands_so kept holdings q disk volume, stands_with kept holdings q disk volume)
