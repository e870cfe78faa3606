use Rattle.std.proofs.Common.{◌≡◌, None, replicate}
use Rattle.fuse_writer.proofs.ahead.Ahead.new.Given as goal

abbrev pub invariant-loop-number : goal.invariant-loop-number
invariant-loop-number l = l.all.items ≡ replicate l._number None
