use Rattle.versions.proofs.Same.{shows_the_same}
use Rattle.versions.proofs.version_2_shows_the_same.Goals as goal

pub returns : goal.returns
returns c = shows_the_same
