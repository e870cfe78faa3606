-- How the table holds the pending updates: it shows the entries of a queue, each entry's id its place in the table.
use Rattle.std.specs.Prelude.{◌≡◌, ℕ, zero, suc, ◌<◌, ◌≤◌, ◌^◌, Bool, false, not, ◌&&◌, ◌==◌, List, [], ◌∷◌, ◌⊎◌, ◌↔◌, Option, Some, None, IsTrue, IsFalse, length, map, reverse, slice_index_or}
use Rattle.std.specs.List.{Contains, cons_option, filter}
use Rattle.std.specs.Vec.{vec_capacity}
use Rattle.model.specs.Layout.{Geometry, block_count}
use Rattle.ordering.specs.Cuts.{Cell, Pending, cell_of}
use Rattle.queue_model.specs.Blocks.{home_of}
use Rattle.queue_model.specs.Entries.{Entry, Queue, Represents, has_id, marks, may_go}
use Rattle.model.specs.Cells.{Update}
use Rattle.updates.specs.declared.change.Update.{Update as OwnUpdate}
use Rattle.updates.specs.Values.{change, written}
use Rattle.updates.specs.Places.{IsCell, FitsVolume, AreCells, place_of, place_count}
use Rattle.lists.specs.Chains.{numbers, IsChain}
use Rattle.lists.specs.Stacks.{stack_at, count_of, room_of}
use Rattle.softdep_queue.specs.declared.table.Node.{Node}
use Rattle.softdep_queue.specs.declared.table.Table.{Table}
use Rattle.softdep_queue.specs.Counts.{occurrences, count_in, code}

-- the node of an id
abbrev pub node_at : List Node → ℕ → Node
node_at nodes i = slice_index_or nodes i (record { home = 0; update = None; waiting = 0; taken = false; waiters = 0 })

-- the ids of those that wait for it
abbrev pub waiters_of : Table → ℕ → List ℕ
waiters_of t i = numbers t.chains (node_at t.nodes.items i).waiters

-- an update of the program makes this change of the model
abbrev pub Shows : Option OwnUpdate → Update → Type 0
Shows None u = ⊥
Shows (Some x) u = change x.change ≡ u

-- the pending update that an update of the program is
abbrev pub pending_in : Option OwnUpdate → Option Pending
pending_in None = None
pending_in (Some x) = Some (written x).update

-- the pending updates of the first so many nodes, the last first
abbrev pub shown_by : List Node → ℕ → List Pending
shown_by nodes zero = []
shown_by nodes (suc n) = cons_option (pending_in (node_at nodes n).update) (shown_by nodes n)

-- a node shows an entry of a block, which still waits for so many
pub record IsNodeOf (geo : Geometry) (t : Table) (b : ℕ) (e : Entry) (due : ℕ) : Type 0 where
  pub home : (node_at t.nodes.items e.id).home ≡ b
  pub on_volume : b < block_count geo
  pub change : Shows (node_at t.nodes.items e.id).update e.change
  pub cell : IsCell geo (cell_of e.change)
  pub fits : FitsVolume geo e.change
  pub waiting : (node_at t.nodes.items e.id).waiting ≡ due
  pub few : length e.waits < 2 ^ 64
  pub chain : IsChain t.chains (node_at t.nodes.items e.id).waiters

-- The table shows the entries of a queue, of which each still waits for so many. Those that are ready stand in the stack of their block, or were taken from it, which their nodes say.
pub record TiesBy (geo : Geometry) (t : Table) (queue : Queue) (q : List Pending) (due : ℕ → Entry → ℕ) (IsReady : ℕ → Entry → Type 0) : Type 0 where
  pub represents : Represents (home_of geo) queue q
  pub shown : shown_by t.nodes.items (length t.nodes.items) ≡ q
  pub cells : (u : Pending) → Contains q u → AreCells geo u
  pub next : queue.next ≡ length t.nodes.items
  pub node : (b : ℕ) (e : Entry) → Contains (queue.lists b) e → IsNodeOf geo t b e (due b e)
  pub waiters : (b c : ℕ) (e f : Entry) → Contains (queue.lists b) e → Contains (queue.lists c) f → occurrences f.id (waiters_of t e.id) ≡ occurrences e.id f.waits
  pub alive : (b : ℕ) (e : Entry) (i : ℕ) → Contains (queue.lists b) e → Contains (waiters_of t e.id) i → IsTrue (queue.pending i)
  pub ready : (b : ℕ) (e : Entry) → Contains (queue.lists b) e → (Contains (stack_at t.ready b) e.id ⊎ Contains t.taken.items e.id) ↔ IsReady b e
  pub flags : (b : ℕ) (e : Entry) → Contains (queue.lists b) e → IsTrue (node_at t.nodes.items e.id).taken ↔ Contains t.taken.items e.id
  pub stacked : (b i : ℕ) → Contains (stack_at t.ready b) i → (e : Entry) × Contains (queue.lists b) e × (e.id ≡ i) × (Contains t.taken.items i → ⊥)
  pub latest : (c : Cell) → IsCell geo c → slice_index_or t.latest.items (place_of geo c) 0 ≡ code (queue.last c)
  pub places : length t.latest.items ≡ place_count geo
  pub blocks : count_of t.ready ≡ block_count geo
  pub pending : t.pending ≡ length q
  pub room : length t.nodes.items ≤ room_of t.ready
  pub spare : length t.nodes.items ≤ vec_capacity t.taken

-- those are ready that wait for nothing
abbrev pub Ties : Geometry → Table → Queue → List Pending → (ℕ → Entry → ℕ) → Type 0
Ties geo t queue q due = TiesBy geo t queue q due (λ b e. due b e ≡ 0)

-- those of these entries that are of a block
abbrev pub of_block : (Cell → ℕ) → ℕ → List Entry → List Entry
of_block home a es = filter (λ (e : Entry). home (cell_of e.change) == a) es

-- Entries, the newest taken first, each taken once all that it waits for and that was pending was taken of its own block.
abbrev pub WereTaken : (Cell → ℕ) → Queue → List Entry → Type 0
WereTaken home queue [] = Unit {0}
WereTaken home queue (e ∷ ws) = Contains (queue.lists (home (cell_of e.change))) e × IsFalse (has_id ws e.id)
    × IsTrue (may_go queue.pending (has_id (of_block home (home (cell_of e.change)) ws)) e) × WereTaken home queue ws

-- what an entry of a block still waits for, where these were taken: not for those of its own block
abbrev pub due_after : (Cell → ℕ) → Queue → List Entry → ℕ → Entry → ℕ
due_after home queue ws b e = count_in (λ i. queue.pending i && not (has_id (of_block home b ws) i)) e.waits

-- these entries were taken, the newest of them first, and none of them is known to be on the medium
pub record Takes (geo : Geometry) (t : Table) (queue : Queue) (q : List Pending) (ws : List Entry) : Type 0 where
  pub ties : Ties geo t queue q (due_after (home_of geo) queue ws)
  pub taken : t.taken.items ≡ reverse (map (λ (e : Entry). e.id) ws)
  pub each : WereTaken (home_of geo) queue ws

-- some entries were taken from the table
pub record IsTaking (geo : Geometry) (t : Table) : Type 0 where
  pub queue : Queue
  pub q : List Pending
  pub ws : List Entry
  pub takes : Takes geo t queue q ws

-- The table holds these pending updates, of which this cut was written and is not known to be on the medium.
pub record Holds (geo : Geometry) (t : Table) (queue : Queue) (q : List Pending) (loose : List Bool) : Type 0 where
  pub written : List Entry
  pub takes : Takes geo t queue q written
  pub cut : marks (has_id written) takes.ties.represents.entries ≡ loose
