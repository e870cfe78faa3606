use Rattle.fuse_nodes.proofs.Kept.{stays_found, told_is_found}
use Rattle.fuse_nodes.proofs.table.a_node_is_found_until_it_is_forgotten.Goals as goal

pub returns-clause-told : goal.returns-clause-told
returns-clause-told c = told_is_found

pub returns-clause-stays : goal.returns-clause-stays
returns-clause-stays c = stays_found
