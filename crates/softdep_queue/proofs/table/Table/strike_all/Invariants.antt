use Rattle.std.proofs.Common.{◌≡◌, List, ◌++◌, length}
use Rattle.ordering.specs.Cuts.{Pending}
use Rattle.queue_model.specs.Entries.{Entry, Queue}
use Rattle.softdep_queue.specs.Retiring.{HasReleased, IsReleased, AreStruck}
use Rattle.softdep_queue.proofs.table.Table.strike_all.Given as goal

abbrev pub invariant-loop-left : goal.invariant-loop-left
invariant-loop-left l = record {
  held : HasReleased l.geometry l.fn.self;
  taken : l.self.taken ≡ l.fn.self.taken;
  struck : (queue : Queue) (q : List Pending) (ws : List Entry) → IsReleased l.geometry l.fn.self queue q ws
      → (done : List Entry) × (rest : List Entry) × (ws ≡ done ++ rest) × (length rest ≡ l.left) × AreStruck l.geometry l.fn.self l.self queue done;
}

abbrev pub decreases-loop-left : goal.decreases-loop-left
decreases-loop-left l = l.left
