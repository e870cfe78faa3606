use Rattle.std.proofs.Common.{◌≡◌, ◌-◌, ◌++◌, List, Contains, length}
use Rattle.ordering.specs.Cuts.{Pending, cell_of}
use Rattle.queue_model.specs.Blocks.{home_of}
use Rattle.queue_model.specs.Entries.{Entry, Queue}
use Rattle.softdep_queue.specs.Ties.{Takes}
use Rattle.softdep_queue.specs.Rooms.{IsTable}
use Rattle.softdep_queue.proofs.Given.{newest}
use Rattle.softdep_queue.proofs.table.Table.take_whole.Given as goal

abbrev pub invariant-loop-number : goal.invariant-loop-number
invariant-loop-number l = record {
  held : IsTable l.geometry l.fn.self;
  taken : (queue : Queue) (q : List Pending) (ws : List Entry) → Takes l.geometry l.fn.self queue q ws
      → (es : List Entry) × Takes l.geometry l.self queue q (es ++ ws) × (length es ≡ l.count) × (l.last ≡ newest es)
      × ((e : Entry) → Contains es e → home_of l.geometry (cell_of e.change) ≡ l.address);
}

abbrev pub decreases-loop-number : goal.decreases-loop-number
decreases-loop-number l = length l.self.nodes.items - l.count
