use Rattle.fuse_writer.proofs.BytesLemmas.{handle_known, handle_stale}
use Rattle.fuse_writer.proofs.opening.handle_of.Goals as goal

pub returns-in-Some : goal.returns-in-Some
returns-in-Some g c = handle_known c.args.mounted.now.session c.args.number c.in-Some.open c.in-Some.ensures

pub returns-in-None : goal.returns-in-None
returns-in-None g c = handle_stale c.args.mounted.now.session c.args.number c.in-None.ensures
