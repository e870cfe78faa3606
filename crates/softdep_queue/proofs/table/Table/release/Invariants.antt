use Rattle.std.proofs.Common.{◌≡◌, List, ◌++◌, length}
use Rattle.model.specs.Layout.{Geometry as Numbers}
use Rattle.ordering.specs.Cuts.{Pending}
use Rattle.queue_model.specs.Blocks.{home_of}
use Rattle.queue_model.specs.Entries.{Entry, Queue}
use Rattle.softdep_queue.specs.Ties.{Ties, Takes, IsTaking}
use Rattle.softdep_queue.specs.Retiring.{due_partly}
use Rattle.softdep_queue.proofs.table.Table.release.Given as goal

abbrev pub invariant-loop-left : goal.invariant-loop-left
invariant-loop-left l = record {
  held : (geo : Numbers) × IsTaking geo l.fn.self;
  taken : l.self.taken ≡ l.fn.self.taken;
  ties : (geo : Numbers) (queue : Queue) (q : List Pending) (ws : List Entry) → Takes geo l.fn.self queue q ws
      → (done : List Entry) × (rest : List Entry) × (ws ≡ done ++ rest) × (length rest ≡ l.left) × Ties geo l.self queue q (due_partly (home_of geo) queue ws done);
}

abbrev pub decreases-loop-left : goal.decreases-loop-left
decreases-loop-left l = l.left
