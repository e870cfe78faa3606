use Rattle.std.proofs.Common.{◌≡◌, ℕ, List, ◌++◌, Contains}
use Rattle.model.specs.Layout.{Geometry as Numbers}
use Rattle.ordering.specs.Cuts.{Pending}
use Rattle.queue_model.specs.Entries.{Entry, Queue}
use Rattle.lists.specs.Chains.{numbers, IsChain}
use Rattle.softdep_queue.specs.Ties.{node_at, waiters_of}
use Rattle.softdep_queue.specs.Returning.{ShowsAll, AreFree}
use Rattle.softdep_queue.proofs.Raising.{more_all}
use Rattle.softdep_queue.proofs.table.Table.raise.Given as goal

abbrev pub invariant-loop-link : goal.invariant-loop-link
invariant-loop-link l = record {
  done : List ℕ;
  left : waiters_of l.fn.self l.fn.number ≡ done ++ numbers l.self.chains l.chain;
  chain : IsChain l.self.chains l.chain;
  chains : l.self.chains ≡ l.fn.self.chains;
  ready : l.self.ready ≡ l.fn.self.ready;
  taken : l.self.taken ≡ l.fn.self.taken;
  flags : (i : ℕ) → (node_at l.self.nodes.items i).taken ≡ (node_at l.fn.self.nodes.items i).taken;
  shows : (geo : Numbers) (queue : Queue) (q : List Pending) (due : ℕ → Entry → ℕ) (b : ℕ) (e : Entry) → ShowsAll geo l.fn.self queue q due → Contains (queue.lists b) e → e.id ≡ l.fn.number
      → AreFree queue due l.fn.address l.fn.number → ShowsAll geo l.self queue q (more_all l.fn.address done due);
}

abbrev pub decreases-loop-link : goal.decreases-loop-link
decreases-loop-link l = l.chain
