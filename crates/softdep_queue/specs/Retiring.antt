-- What was written is on the medium, and is struck out.
use Rattle.std.specs.Prelude.{◌≡◌, ℕ, suc, not, ◌&&◌, ◌==◌, if◌then◌else◌, List, ◌++◌, None, IsTrue, IsFalse, length, map, reverse, slice_set, slice_index_or}
use Rattle.std.specs.List.{filter}
use Rattle.model.specs.Layout.{Geometry}
use Rattle.ordering.specs.Cuts.{Cell, Pending}
use Rattle.queue_model.specs.Entries.{Entry, Queue, has_id, unless}
use Rattle.updates.specs.Places.{IsCell, place_of}
use Rattle.softdep_queue.specs.declared.table.Table.{Table}
use Rattle.softdep_queue.specs.Counts.{count_in, code}
use Rattle.softdep_queue.specs.Ties.{Ties, WereTaken, of_block, node_at}
use Rattle.queue_model.specs.Blocks.{home_of}

-- what entries still wait for where these are gone
abbrev pub due_without : Queue → List Entry → ℕ → Entry → ℕ
due_without queue ws b e = count_in (λ i. queue.pending i && not (has_id ws i)) e.waits

-- what they wait for where these were taken, and those of them are gone
abbrev pub due_partly : (Cell → ℕ) → Queue → List Entry → List Entry → ℕ → Entry → ℕ
due_partly home queue ws gone b e = count_in (λ i. queue.pending i && not (has_id (of_block home b ws ++ gone) i)) e.waits

-- the queue without these entries
abbrev pub struck_out : List Entry → Queue → Queue
struck_out ws queue = record {
  next = queue.next;
  lists = λ b. filter (λ (e : Entry). not (has_id ws e.id)) (queue.lists b);
  pending = λ i. queue.pending i && not (has_id ws i);
  last = λ c. unless (has_id ws) (queue.last c);
}

-- no entry waits for them any more
pub record IsReleased (geo : Geometry) (t : Table) (queue : Queue) (q : List Pending) (ws : List Entry) : Type 0 where
  pub ties : Ties geo t queue q (due_without queue ws)
  pub taken : t.taken.items ≡ reverse (map (λ (e : Entry). e.id) ws)
  pub each : WereTaken (home_of geo) queue ws

-- the node of a number shows nothing any more, and the number is no cell's last one
pub record IsStruck (geo : Geometry) (t t' : Table) (i : ℕ) (c : Cell) : Type 0 where
  pub nodes : t'.nodes.items ≡ slice_set t.nodes.items i (record (node_at t.nodes.items i) { update = None })
  pub latest : t'.latest.items ≡ (if slice_index_or t.latest.items (place_of geo c) 0 == suc i then slice_set t.latest.items (place_of geo c) 0 else t.latest.items)
  pub chains : t'.chains ≡ t.chains
  pub ready : t'.ready ≡ t.ready
  pub taken : t'.taken ≡ t.taken
  pub pending : t'.pending ≡ t.pending

-- so it is of all of these entries
pub record AreStruck (geo : Geometry) (t t' : Table) (queue : Queue) (es : List Entry) : Type 0 where
  pub count : length t'.nodes.items ≡ length t.nodes.items
  pub nodes : (i : ℕ) → IsFalse (has_id es i) → node_at t'.nodes.items i ≡ node_at t.nodes.items i
  pub gone : (i : ℕ) → IsTrue (has_id es i) → (node_at t'.nodes.items i).update ≡ None
  pub places : length t'.latest.items ≡ length t.latest.items
  pub latest : (c : Cell) → IsCell geo c → slice_index_or t'.latest.items (place_of geo c) 0 ≡ code (unless (has_id es) (queue.last c))
  pub chains : t'.chains ≡ t.chains
  pub ready : t'.ready ≡ t.ready
  pub taken : t'.taken ≡ t.taken
  pub pending : t'.pending ≡ t.pending

-- some entries were released
pub record HasReleased (geo : Geometry) (t : Table) : Type 0 where
  pub queue : Queue
  pub q : List Pending
  pub ws : List Entry
  pub released : IsReleased geo t queue q ws
