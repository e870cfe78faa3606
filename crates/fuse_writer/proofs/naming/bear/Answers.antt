use Rattle.fuse_nodes.specs.Table.{Born}
use Rattle.fuse_writer.specs.Ahead.{notes, settled}
use Rattle.fuse_writer.proofs.DoingLemmas.{noted_both}
use Rattle.fuse_writer.proofs.naming.bear.Goals as goal

pub returns-clause-session : goal.returns-clause-session
returns-clause-session g c =
    let s = c.args.mounted.now.session in
    rw (c.note.ensures.session, c.clear.ensures.session, c.bear.ensures) (noted_both (Born c.args.number) (settled c.args.number) (notes s c.args.directory c.args.touched) s)
