use Rattle.std.proofs.Common.{◌≡◌, ◌≤◌, ◌*◌, ◌-◌, ℕ, List, [], length}
use Rattle.fuse_wire.specs.declared.errors.Errno.{Errno}
use Rattle.fuse_writer.specs.Doings.{Doing, LeadsOn}
use Rattle.fuse_writer.specs.Requests.{reads_blocks}
use Rattle.fuse_writer.proofs.bytes.read_between.Given as goal

abbrev pub invariant-loop-index : goal.invariant-loop-index
invariant-loop-index g l = record {
  start : l.mounted.asking.start ≡ l.fn.mounted.asking.start;
  session : l.mounted.session ≡ l.fn.mounted.session;
  few : length l.bytes.items ≤ 1024 * (l.index - l.first);
  on : (next : List ℕ → Doing) (refused : Errno → Doing) → LeadsOn (reads_blocks l.handle l.from l.to l.first (l.last - l.first) [] next refused) l.fn.mounted.asking l.fn.mounted.session
      (reads_blocks l.handle l.from l.to l.index (l.last - l.index) l.bytes.items next refused) l.mounted.asking l.mounted.session;
}
