-- What was taken goes back: updates of its block wait for it again.
use Rattle.std.specs.Prelude.{◌≡◌, ℕ, ◌+◌, ◌<◌, ◌≤◌, Bool, ◌&&◌, ◌==◌, if◌then◌else◌, List, IsTrue, length, slice_index_or}
use Rattle.std.specs.List.{Contains}
use Rattle.std.specs.Vec.{vec_capacity}
use Rattle.model.specs.Layout.{Geometry, block_count}
use Rattle.ordering.specs.Cuts.{Cell, Pending}
use Rattle.queue_model.specs.Blocks.{home_of}
use Rattle.queue_model.specs.Entries.{Entry, Queue, Represents}
use Rattle.updates.specs.Places.{IsCell, AreCells, place_of, place_count}
use Rattle.lists.specs.Stacks.{count_of, room_of}
use Rattle.softdep_queue.specs.declared.table.Table.{Table}
use Rattle.softdep_queue.specs.Counts.{occurrences, code}
use Rattle.softdep_queue.specs.Ties.{IsNodeOf, shown_by, waiters_of}
use Rattle.softdep_queue.specs.Taking.{HasTaken}

-- The table shows the entries of a queue, of which each still waits for so many, whichever of them stand as ready.
pub record ShowsAll (geo : Geometry) (t : Table) (queue : Queue) (q : List Pending) (due : ℕ → Entry → ℕ) : Type 0 where
  pub represents : Represents (home_of geo) queue q
  pub shown : shown_by t.nodes.items (length t.nodes.items) ≡ q
  pub cells : (u : Pending) → Contains q u → AreCells geo u
  pub next : queue.next ≡ length t.nodes.items
  pub node : (b : ℕ) (e : Entry) → Contains (queue.lists b) e → IsNodeOf geo t b e (due b e)
  pub waiters : (b c : ℕ) (e f : Entry) → Contains (queue.lists b) e → Contains (queue.lists c) f → occurrences f.id (waiters_of t e.id) ≡ occurrences e.id f.waits
  pub alive : (b : ℕ) (e : Entry) (i : ℕ) → Contains (queue.lists b) e → Contains (waiters_of t e.id) i → IsTrue (queue.pending i)
  pub latest : (c : Cell) → IsCell geo c → slice_index_or t.latest.items (place_of geo c) 0 ≡ code (queue.last c)
  pub places : length t.latest.items ≡ place_count geo
  pub blocks : count_of t.ready ≡ block_count geo
  pub pending : t.pending ≡ length q
  pub room : length t.nodes.items ≤ room_of t.ready
  pub spare : length t.nodes.items ≤ vec_capacity t.taken

-- one update more for this entry, if it is of the block
abbrev pub more : ℕ → ℕ → (ℕ → Entry → ℕ) → ℕ → Entry → ℕ
more a w due b e = if b == a && e.id == w then due b e + 1 else due b e

-- the number is that of an entry which does not wait for all that it waited for, if it is of the block
pub record MayBeRaised (t : Table) (w a : ℕ) : Type 0 where
  pub geo : Geometry
  pub queue : Queue
  pub q : List Pending
  pub due : ℕ → Entry → ℕ
  pub block : ℕ
  pub entry : Entry
  pub shows : ShowsAll geo t queue q due
  pub listed : Contains (queue.lists block) entry
  pub id : entry.id ≡ w
  pub lacks : IsTrue (block == a) → due block entry < length entry.waits

-- one update more for each time that an entry of the block waits for this number
abbrev pub held : ℕ → ℕ → (ℕ → Entry → ℕ) → ℕ → Entry → ℕ
held a i due b e = if b == a then due b e + occurrences i e.waits else due b e

-- no entry of the block waits for this number now
abbrev pub AreFree : Queue → (ℕ → Entry → ℕ) → ℕ → ℕ → Type 0
AreFree queue due a i = (b : ℕ) (e : Entry) → Contains (queue.lists b) e → IsTrue (b == a) → due b e + occurrences i e.waits ≤ length e.waits

-- the number is that of an entry for which others of the block do not wait now
pub record MayBeHeld (t : Table) (i a : ℕ) : Type 0 where
  pub geo : Geometry
  pub queue : Queue
  pub q : List Pending
  pub due : ℕ → Entry → ℕ
  pub block : ℕ
  pub entry : Entry
  pub shows : ShowsAll geo t queue q due
  pub listed : Contains (queue.lists block) entry
  pub id : entry.id ≡ i
  pub free : AreFree queue due a i

-- the table holds pending updates, of which a flush of the block took so many, those that may go
pub record MayBeGivenBack (t : Table) (a number : ℕ) : Type 0 where
  pub geo : Geometry
  pub queue : Queue
  pub q : List Pending
  pub loose : List Bool
  pub taken : HasTaken geo t queue q loose a number
