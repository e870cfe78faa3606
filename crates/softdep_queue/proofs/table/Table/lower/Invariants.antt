use Rattle.std.proofs.Common.{◌≡◌, ℕ, List, ◌++◌, Contains}
use Rattle.model.specs.Layout.{Geometry as Numbers}
use Rattle.ordering.specs.Cuts.{Pending}
use Rattle.queue_model.specs.Entries.{Entry, Queue}
use Rattle.lists.specs.Chains.{numbers, IsChain}
use Rattle.softdep_queue.specs.Ties.{Ties, node_at, waiters_of}
use Rattle.softdep_queue.specs.Rooms.{HasRoom}
use Rattle.softdep_queue.specs.Lowering.{AreWaiting}
use Rattle.softdep_queue.proofs.Steps.{less_all}
use Rattle.softdep_queue.proofs.table.Table.lower.Given as goal

abbrev pub invariant-loop-link : goal.invariant-loop-link
invariant-loop-link l = record {
  done : List ℕ;
  left : waiters_of l.fn.self l.fn.number ≡ done ++ numbers l.self.chains l.chain;
  chain : IsChain l.self.chains l.chain;
  chains : l.self.chains ≡ l.fn.self.chains;
  taken : l.self.taken ≡ l.fn.self.taken;
  room : (updates cells : ℕ) → HasRoom l.fn.self updates cells → HasRoom l.self updates cells;
  changes : (i : ℕ) → (node_at l.self.nodes.items i).update ≡ (node_at l.fn.self.nodes.items i).update;
  ties : (geo : Numbers) (queue : Queue) (q : List Pending) (due : ℕ → Entry → ℕ) (b : ℕ) (e : Entry) → Ties geo l.fn.self queue q due → Contains (queue.lists b) e → e.id ≡ l.fn.number
      → AreWaiting queue due l.fn.address l.fn.here l.fn.number → Ties geo l.self queue q (less_all l.fn.address l.fn.here done due);
}

abbrev pub decreases-loop-link : goal.decreases-loop-link
decreases-loop-link l = l.chain
