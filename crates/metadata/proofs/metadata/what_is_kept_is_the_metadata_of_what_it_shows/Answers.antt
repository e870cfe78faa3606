use Rattle.metadata.proofs.ShownLemmas.{shows_metadata}
use Rattle.metadata.proofs.metadata.what_is_kept_is_the_metadata_of_what_it_shows.Goals as goal

pub returns : goal.returns
returns c = shows_metadata
