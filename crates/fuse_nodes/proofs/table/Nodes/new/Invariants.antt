use Rattle.std.proofs.Common.{◌≡◌, replicate}
use Rattle.fuse_nodes.specs.Known.{fresh}
use Rattle.fuse_nodes.proofs.table.Nodes.new.Given as goal

abbrev pub invariant-loop-number : goal.invariant-loop-number
invariant-loop-number l = l.nodes.items ≡ replicate l._number fresh
