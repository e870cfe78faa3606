-- How an update gets into the table.
use Rattle.std.specs.Prelude.{◌≡◌, ℕ, zero, suc, ◌+◌, ◌<◌, Bool, not, ◌&&◌, ◌==◌, List, ◌∷◌, ◌⊎◌, Option, Some, None, length, slice_index_or}
use Rattle.std.specs.List.{filter_map}
use Rattle.std.specs.Vec.{vec_capacity}
use Rattle.model.specs.Layout.{Geometry}
use Rattle.ordering.specs.Cuts.{Cell, Pending}
use Rattle.updates.specs.declared.change.Update.{Update}
use Rattle.updates.specs.Values.{written}
use Rattle.updates.specs.Places.{place_of, place_count}
use Rattle.lists.specs.Chains.{IsChain}
use Rattle.lists.specs.Stacks.{stack_at}
use Rattle.softdep_queue.specs.declared.table.Table.{Table}
use Rattle.softdep_queue.specs.Counts.{occurrences, count_in}
use Rattle.softdep_queue.specs.Ties.{node_at, waiters_of}

-- the update of the model
abbrev pub update_of : Update → Pending
update_of u = (written u).update

-- the number that a code stands for
abbrev pub decode : ℕ → Option ℕ
decode zero = None
decode (suc i) = Some i

-- the last pending update of a cell, as the table has it
abbrev pub last_in : Geometry → Table → Cell → Option ℕ
last_in geo t c = decode (slice_index_or t.latest.items (place_of geo c) 0)

-- those of some cells
abbrev pub lasts : Geometry → Table → List Cell → List ℕ
lasts geo t cells = filter_map (last_in geo t) cells

-- whether an update was taken, and is of this block
abbrev pub is_own : Table → ℕ → ℕ → Bool
is_own t home i = (node_at t.nodes.items i).taken && (node_at t.nodes.items i).home == home

-- for how many of these an update of this block waits: not for those of its own block that were taken
abbrev pub counted : Table → ℕ → List ℕ → ℕ
counted t home ids = count_in (λ i. not (is_own t home i)) ids

-- a list with a number so many times in front
abbrev pub in_front : ℕ → ℕ → List ℕ → List ℕ
in_front zero number ns = ns
in_front (suc times) number ns = number ∷ in_front times number ns

-- the new number stands on the top of its block's stack, or nothing new stands there
abbrev pub MayStand : Table → Table → ℕ → Type 0
MayStand t t' home = (stack_at t'.ready home ≡ stack_at t.ready home) ⊎ (stack_at t'.ready home ≡ length t.nodes.items ∷ stack_at t.ready home)

-- an update can wait for the last one of this cell
pub record MayWait (geo : Geometry) (t : Table) (c : Cell) : Type 0 where
  pub places : length t.latest.items ≡ place_count geo
  pub last : (i : ℕ) → last_in geo t c ≡ Some i → (i < length t.nodes.items) × IsChain t.chains (node_at t.nodes.items i).waiters
  pub room : 0 < t.chains.room

-- a number was put among the waiters of these updates, as often as each stands in the list, and nothing else has changed
pub record IsBehind (t t' : Table) (number : ℕ) (ids : List ℕ) : Type 0 where
  pub latest : t'.latest ≡ t.latest
  pub taken : t'.taken ≡ t.taken
  pub ready : t'.ready ≡ t.ready
  pub pending : t'.pending ≡ t.pending
  pub count : length t'.nodes.items ≡ length t.nodes.items
  pub capacity : vec_capacity t'.nodes ≡ vec_capacity t.nodes
  pub home : (i : ℕ) → (node_at t'.nodes.items i).home ≡ (node_at t.nodes.items i).home
  pub change : (i : ℕ) → (node_at t'.nodes.items i).update ≡ (node_at t.nodes.items i).update
  pub waiting : (i : ℕ) → (node_at t'.nodes.items i).waiting ≡ (node_at t.nodes.items i).waiting
  pub flag : (i : ℕ) → (node_at t'.nodes.items i).taken ≡ (node_at t.nodes.items i).taken
  pub chain : (i : ℕ) → IsChain t.chains (node_at t.nodes.items i).waiters → IsChain t'.chains (node_at t'.nodes.items i).waiters
  pub waiters : (i : ℕ) → IsChain t.chains (node_at t.nodes.items i).waiters → waiters_of t' i ≡ in_front (occurrences i ids) number (waiters_of t i)
  pub room : t.chains.room ≡ t'.chains.room + length ids
