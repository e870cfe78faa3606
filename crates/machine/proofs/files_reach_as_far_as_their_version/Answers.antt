use Rattle.machine.proofs.VersionRows.{first_of_one, first_of_two, last_of_each, three_blocks, two_blocks}
use Rattle.machine.proofs.files_reach_as_far_as_their_version.Goals as goal

pub returns : goal.returns
returns c = record { first = (first_of_one, first_of_two); last = last_of_each; tables = (three_blocks, two_blocks) }
