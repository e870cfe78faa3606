use Rattle.fuse_writer.proofs.RequestLemmas.{node_known, node_stale}
use Rattle.fuse_writer.proofs.mounted.Mounted.inode.Goals as goal

pub returns-in-Some : goal.returns-in-Some
returns-in-Some g c = node_known c.args.self.now.session c.args.node c.in-Some.number c.in-Some.ensures

pub returns-in-None : goal.returns-in-None
returns-in-None g c = node_stale c.args.self.now.session c.args.node c.in-None.ensures
