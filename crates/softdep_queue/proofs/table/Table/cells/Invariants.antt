use Rattle.std.proofs.Common.{◌≡◌}
use Rattle.softdep_queue.specs.Moving.{cells_by}
use Rattle.softdep_queue.proofs.table.Table.cells.Given as goal

abbrev pub invariant-loop-node : goal.invariant-loop-node
invariant-loop-node l = l.cells ≡ cells_by l.self.nodes.items l.node-index
