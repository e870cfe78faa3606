use Rattle.fuse_reader.proofs.LawLemmas.{acts_on}
use Rattle.fuse_reader.proofs.laws.a_request_acts_on_the_inode_that_was_told.Goals as goal

pub returns : goal.returns
returns c = acts_on
