use Rattle.std.proofs.Common.{◌≡◌, ◌-◌, min, subst}
use Rattle.model.specs.Layout.{inode_count}
use Rattle.fuse_writer.specs.Desks.{begun, ended}
use Rattle.fuse_writer.specs.Doings.{Does}
use Rattle.fuse_writer.specs.Requests.{settles_some}
use Rattle.fuse_writer.specs.Saying.{said_done}
use Rattle.fuse_daemon.proofs.flushing.settle_some.Goals as goal

pub returns-clause-does : goal.returns-clause-does
returns-clause-does g c =
    let going = c.args.going.now in
    let left : c.min.result ≡ min (inode_count going.volume.kept.geometry - c.args.from) c.args.count = cc in (
      said_done c.settle.result,
      subst (λ n. Does (settles_some going.session c.args.from n) (begun going) going.session (said_done c.settle.result) (ended c.settle.new.self) c.settle.new.self.session)
          left c.settle.ensures.does,
    )
