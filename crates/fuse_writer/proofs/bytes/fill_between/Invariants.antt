use Rattle.std.proofs.Common.{◌≡◌, ◌-◌}
use Rattle.fuse_wire.specs.declared.errors.Errno.{Errno}
use Rattle.fuse_writer.specs.Doings.{Doing, LeadsOn}
use Rattle.fuse_writer.specs.Requests.{fills_blocks}
use Rattle.fuse_writer.proofs.bytes.fill_between.Given as goal

abbrev pub invariant-loop-index : goal.invariant-loop-index
invariant-loop-index g l = record {
  start : l.mounted.asking.start ≡ l.fn.mounted.asking.start;
  session : l.mounted.session ≡ l.fn.mounted.session;
  on : (next : Doing) (refused : Errno → Doing) → LeadsOn (fills_blocks l.handle l.span.from l.span.to l.first (l.last - l.first) next refused) l.fn.mounted.asking l.fn.mounted.session
      (fills_blocks l.handle l.span.from l.span.to l.index (l.last - l.index) next refused) l.mounted.asking l.mounted.session;
}
