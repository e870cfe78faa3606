use Rattle.metadata.proofs.ShownLemmas.{shows_image}
use Rattle.metadata.proofs.metadata.what_is_kept_of_an_image_shows_it.Goals as goal

pub returns : goal.returns
returns c = shows_image
