use Rattle.std.proofs.Common.{arith}
use Rattle.fuse_writer.proofs.RequestLemmas.{leads_long, leads_short}
use Rattle.fuse_writer.proofs.naming.leads_to.Goals as goal

pub returns-then-name-gt-NAME_BYTES : goal.returns-then-name-gt-NAME_BYTES
returns-then-name-gt-NAME_BYTES g c =
    leads_long c.args.mounted.now.asking.volume.kept c.args.directory c.args.name.now (omega (arith, c.if-name-gt-NAME_BYTES.true))

pub returns : goal.returns
returns g c =
    let kept = c.args.mounted.now.asking.volume.kept in
    leads_short kept c.args.directory c.args.name.now (omega (arith, c.if-name-gt-NAME_BYTES.false)) c.number_of.result
    (rw (← c.metadata.ensures) c.number_of.ensures)
