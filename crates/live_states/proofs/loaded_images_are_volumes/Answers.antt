use Rattle.live_states.proofs.Standing.{loaded}
use Rattle.live_states.proofs.loaded_images_are_volumes.Goals as goal

pub returns : goal.returns
returns c = loaded
