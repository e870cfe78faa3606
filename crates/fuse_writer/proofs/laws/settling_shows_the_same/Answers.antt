use Rattle.fuse_writer.proofs.ShownLemmas.{shows_the_same}
use Rattle.fuse_writer.proofs.laws.settling_shows_the_same.Goals as goal

pub returns : goal.returns
returns c = shows_the_same
