use Rattle.std.proofs.Common.{sym}
use Rattle.fuse_wire.proofs.Messages.{length-forgets_in}
use Rattle.fuse_wire.proofs.requests.Forgets.len.Goals as goal

pub returns : goal.returns
returns c = sym (length-forgets_in c.args.self.now.bytes.now)
