use Rattle.live_states.proofs.Loading.{of_an_image}
use Rattle.live_states.proofs.what_is_kept_is_of_an_image.Goals as goal

pub returns : goal.returns
returns c = of_an_image
