use Rattle.std.proofs.Common.{◌≡◌, ℕ, ◌+◌, ◌++◌, length}
use Rattle.queue_model.specs.Blocks.{home_of}
use Rattle.softdep_queue.specs.Ties.{shown_by}
use Rattle.softdep_queue.specs.Rooms.{HasRoom}
use Rattle.softdep_queue.specs.Moving.{cells_by, cells_of, taken_by, IsClosedByBlocks, HoldsAlone, AreUpdates}
use Rattle.softdep_queue.proofs.table.Table.add_all.Given as goal

abbrev pub invariant-loop-node : goal.invariant-loop-node
invariant-loop-node l = record {
  split : l.fn.nodes.items ≡ l.yielded ++ l.node-iterator.rest.items;
  cells : AreUpdates l.geometry l.fn.nodes.items;
  closed : IsClosedByBlocks (home_of l.geometry) (shown_by l.fn.nodes.items (length l.fn.nodes.items)) (taken_by l.fn.nodes.items (length l.fn.nodes.items));
  alone : HoldsAlone l.geometry l.self (shown_by l.fn.nodes.items (length l.yielded)) (taken_by l.fn.nodes.items (length l.yielded));
  room : (updates cells : ℕ) → updates + length (shown_by l.fn.nodes.items (length l.yielded)) ≡ length (shown_by l.fn.nodes.items (length l.fn.nodes.items))
      → cells + cells_by l.fn.nodes.items (length l.yielded) ≡ cells_of l.fn.nodes.items → HasRoom l.self updates cells;
}
