use Rattle.std.proofs.Common.{◌≡◌, ◌-◌}
use Rattle.fuse_wire.specs.declared.errors.Errno.{Errno}
use Rattle.fuse_writer.specs.declared.session.Session.{Session}
use Rattle.fuse_writer.specs.Doings.{Doing, LeadsOn}
use Rattle.fuse_writer.specs.Requests.{closes_often}
use Rattle.fuse_writer.proofs.answering.close_often.Given as goal

abbrev pub invariant-loop-closed : goal.invariant-loop-closed
invariant-loop-closed g l = record {
  start : l.mounted.asking.start ≡ l.fn.mounted.asking.start;
  on : (next : Session → Doing) (refused : Errno → Doing) → LeadsOn (closes_often l.fn.mounted.session l.number l.count next refused) l.fn.mounted.asking l.fn.mounted.session
      (closes_often l.mounted.session l.number (l.count - l._closed) next refused) l.mounted.asking l.mounted.session;
}
