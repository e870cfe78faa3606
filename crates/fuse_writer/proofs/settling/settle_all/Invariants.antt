use Rattle.std.proofs.Common.{◌≡◌, ◌+◌, ◌-◌}
use Rattle.fuse_wire.specs.declared.errors.Errno.{Errno}
use Rattle.fuse_writer.specs.declared.session.Session.{Session}
use Rattle.fuse_writer.specs.Doings.{Doing, LeadsOn}
use Rattle.fuse_writer.specs.Requests.{settles_all}
use Rattle.fuse_writer.proofs.settling.settle_all.Given as goal

abbrev pub invariant-loop-number : goal.invariant-loop-number
invariant-loop-number g l = record {
  start : l.mounted.asking.start ≡ l.fn.mounted.asking.start;
  on : (next : Session → Doing) (refused : Session → Errno → Doing) → LeadsOn (settles_all l.fn.mounted.session l.from l.count next refused) l.fn.mounted.asking l.fn.mounted.session
      (settles_all l.mounted.session l.number ((l.from + l.count) - l.number) next refused) l.mounted.asking l.mounted.session;
}
