use Rattle.std.proofs.Common.{◌≡◌, ◌-◌}
use Rattle.fuse_wire.specs.declared.errors.Errno.{Errno}
use Rattle.fuse_writer.specs.Doings.{Doing, LeadsOn}
use Rattle.fuse_writer.specs.Requests.{closes_all}
use Rattle.fuse_writer.proofs.answering.close_all.Given as goal

abbrev pub invariant-loop-number : goal.invariant-loop-number
invariant-loop-number g l = record {
  start : l.mounted.asking.start ≡ l.fn.mounted.asking.start;
  on : (next : Doing) (refused : Errno → Doing) → LeadsOn (closes_all l.fn.mounted.session 0 l.inodes next refused) l.fn.mounted.asking l.fn.mounted.session
      (closes_all l.mounted.session l.number (l.inodes - l.number) next refused) l.mounted.asking l.mounted.session;
}
