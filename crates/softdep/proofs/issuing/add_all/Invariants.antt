use Rattle.std.proofs.Common.{◌≡◌, Bool, List, ◌++◌, length, map}
use Rattle.ordering.specs.Cuts.{Pending}
use Rattle.queue_model.specs.Entries.{Queue as Entries}
use Rattle.softdep_queue.specs.Ties.{Holds}
use Rattle.softdep_queue.specs.Rooms.{IsTable, HasRoom}
use Rattle.updates.specs.Values.{written}
use Rattle.softdep.specs.Queued.{added, unmarked, cells_of}
use Rattle.softdep.proofs.issuing.add_all.Given as goal

abbrev pub invariant-loop-update : goal.invariant-loop-update
invariant-loop-update l = record {
  split : l.fn.updates.items ≡ l.yielded ++ l.update-iterator.rest.items;
  held : IsTable l.geometry l.fn.table;
  room : HasRoom l.table (length l.update-iterator.rest.items) (cells_of l.update-iterator.rest.items);
  holds : (entries : Entries) (q : List Pending) (loose : List Bool) → Holds l.geometry l.fn.table entries q loose → (entries' : Entries) × Holds l.geometry l.table entries' (added q (map written l.yielded)) (unmarked loose (map written l.yielded));
}
