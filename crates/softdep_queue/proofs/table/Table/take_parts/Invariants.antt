use Rattle.std.proofs.Common.{◌≡◌, ◌-◌, ◌++◌, List, Contains, length}
use Rattle.ordering.specs.Cuts.{Pending, cell_of}
use Rattle.queue_model.specs.Blocks.{home_of}
use Rattle.queue_model.specs.Entries.{Entry, Queue}
use Rattle.updates.specs.Alone.{IsPutAll}
use Rattle.softdep_queue.specs.Ties.{Takes}
use Rattle.softdep_queue.specs.Rooms.{IsTable}
use Rattle.softdep_queue.specs.Taking.{changes_of}
use Rattle.softdep_queue.proofs.table.Table.take_parts.Given as goal

abbrev pub invariant-loop-count : goal.invariant-loop-count
invariant-loop-count l = record {
  held : IsTable l.geometry l.fn.self;
  taken : (queue : Queue) (q : List Pending) (ws : List Entry) → Takes l.geometry l.fn.self queue q ws
      → (es : List Entry) × Takes l.geometry l.self queue q (es ++ ws) × (length es ≡ l.count) × IsPutAll l.geometry (changes_of es) l.fn.block l.block
      × ((e : Entry) → Contains es e → home_of l.geometry (cell_of e.change) ≡ l.address);
}

abbrev pub decreases-loop-count : goal.decreases-loop-count
decreases-loop-count l = length l.self.nodes.items - l.count
