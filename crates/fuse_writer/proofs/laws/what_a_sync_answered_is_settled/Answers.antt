use Rattle.fuse_writer.proofs.SettledLemmas.{sync_settles}
use Rattle.fuse_writer.proofs.laws.what_a_sync_answered_is_settled.Goals as goal

pub returns : goal.returns
returns c = sync_settles
