use Rattle.std.proofs.Common.{◌≡◌, ◌+◌, ◌-◌, ◌≤◌, Bool, List, ◌++◌, length}
use Rattle.model.specs.Layout.{Geometry as Numbers}
use Rattle.ordering.specs.Cuts.{Pending}
use Rattle.queue_model.specs.Entries.{Entry, Queue}
use Rattle.softdep_queue.specs.Taking.{HasTaken}
use Rattle.softdep_queue.proofs.GivenBack.{IsBack}
use Rattle.softdep_queue.proofs.table.Table.give_back.Given as goal

abbrev pub invariant-loop-k : goal.invariant-loop-k
invariant-loop-k l = record {
  taken : l.self.taken ≡ l.fn.self.taken;
  from : length l.fn.self.taken.items - l.count ≤ l.k;
  back : (geo : Numbers) (queue : Queue) (q : List Pending) (loose : List Bool) (h : HasTaken geo l.fn.self queue q loose l.address l.count)
      → (newer back : List Entry) → h.es ≡ newer ++ back → length back + length h.older ≡ l.k → IsBack geo l.fn.self l.self queue q l.address h.older newer back;
}
