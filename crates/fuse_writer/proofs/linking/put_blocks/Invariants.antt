use Rattle.std.proofs.Common.{◌≡◌, ◌-◌}
use Rattle.fuse_wire.specs.declared.errors.Errno.{Errno}
use Rattle.fuse_writer.specs.Doings.{Doing, LeadsOn}
use Rattle.fuse_writer.specs.Requests.{puts_blocks}
use Rattle.fuse_writer.proofs.linking.put_blocks.Given as goal

abbrev pub invariant-loop-index : goal.invariant-loop-index
invariant-loop-index g l = record {
  start : l.mounted.asking.start ≡ l.fn.mounted.asking.start;
  session : l.mounted.session ≡ l.fn.mounted.session;
  on : (next : Doing) (refused : Errno → Doing) → LeadsOn (puts_blocks l.handle 0 l.last l.bytes next refused) l.fn.mounted.asking l.fn.mounted.session
      (puts_blocks l.handle l.index (l.last - l.index) l.rest next refused) l.mounted.asking l.mounted.session;
}
