use Rattle.frozen_files.proofs.Laws.{read_of_users}
use Rattle.frozen_files.proofs.snapshots_are_read_from_the_users_blocks.Goals as goal

pub returns : goal.returns
returns c = read_of_users
