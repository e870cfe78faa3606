use Rattle.fuse_daemon.specs.Services.{AtEnd}
use Rattle.fuse_daemon.proofs.running.close.Goals as goal

pub returns-clause-part : goal.returns-clause-part
returns-clause-part g c = AtEnd _ c.end-written.ensures.does
