use Rattle.live_states.proofs.Standing.{device_safe, stop_safe}
use Rattle.live_states.proofs.each_stop_of_a_volume_is_safe.Goals as goal

pub returns : goal.returns
returns c = λ kept holdings q disk volume. (device_safe kept holdings q disk volume, stop_safe kept holdings q disk volume)
