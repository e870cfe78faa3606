use Rattle.std.proofs.Common.{◌≡◌, ◌≤◌, ◌+◌, ◌-◌, length}
use Rattle.fuse_writer.specs.Doings.{LeadsOn}
use Rattle.fuse_writer.specs.Requests.{writes_blocks}
use Rattle.fuse_writer.proofs.bytes.write_between.Given as goal

abbrev pub invariant-loop-index : goal.invariant-loop-index
invariant-loop-index g l = record {
  start : l.mounted.asking.start ≡ l.fn.mounted.asking.start;
  sum : l.done + length l.rest ≤ length l.bytes;
  on : LeadsOn (writes_blocks l.handle l.span.from l.span.to l.first (l.last - l.first) l.bytes 0) l.fn.mounted.asking l.fn.mounted.session
      (writes_blocks l.handle l.span.from l.span.to l.index (l.last - l.index) l.rest l.done) l.mounted.asking l.mounted.session;
}
