use Rattle.fuse_nodes.proofs.Runs.{leads}
use Rattle.fuse_nodes.proofs.table.a_node_leads_to_its_inode.Goals as goal

pub returns : goal.returns
returns c = leads
