-- What a flush takes of a block.
use Rattle.std.specs.Prelude.{◌≡◌, ℕ, ◌∷◌, ◌++◌, ◌<◌, ◌↔◌, Bool, true, false, List, Option, Some, None, length, map}
use Rattle.std.specs.List.{Contains}
use Rattle.model.specs.Layout.{Geometry}
use Rattle.model.specs.Cells.{Update}
use Rattle.ordering.specs.Cuts.{Pending, cell_of}
use Rattle.queue_model.specs.Blocks.{home_of}
use Rattle.queue_model.specs.Flush.{ready, taken, TakesChange}
use Rattle.queue_model.specs.Entries.{Entry, Queue, has_id, marks, NoOtherMayGo}
use Rattle.power_cut.specs.Epochs.{union}
use Rattle.updates.specs.Alone.{IsPutInto, IsPutAll}
use Rattle.updates.specs.Places.{IsCell, FitsVolume}
use Rattle.softdep_queue.specs.declared.table.Table.{Table}
use Rattle.softdep_queue.specs.Ties.{Holds, Takes, Shows, of_block, node_at}
use Rattle.softdep_queue.specs.Next.{to_write}

-- the entry of this id, which is of the block, was taken too; or none was left that may go, and nothing changed
abbrev pub TakesNext : Geometry → Queue → List Pending → ℕ → List Entry → Table → Table → Option ℕ → Type 0
TakesNext geo queue q a es t t' None = NoOtherMayGo queue a (of_block (home_of geo) a es) × (t' ≡ t)
TakesNext geo queue q a es t t' (Some i) = (e : Entry) × (e.id ≡ i) × (home_of geo (cell_of e.change) ≡ a) × Takes geo t' queue q (e ∷ es)

-- one entry more was taken, and its change was put into the block; or none was left that may go, and nothing changed
abbrev pub TakesOne : Geometry → Queue → List Pending → ℕ → List Entry → Table → List ℕ → List ℕ → Bool → Type 0
TakesOne geo queue q a es t old new true = (e : Entry) × (home_of geo (cell_of e.change) ≡ a) × Takes geo t queue q (e ∷ es) × IsPutInto geo e.change old new
TakesOne geo queue q a es t old new false = Takes geo t queue q es × NoOtherMayGo queue a (of_block (home_of geo) a es) × (new ≡ old)

-- the node of an id shows a change of one of the volume's cells, whose value fits it
pub record ShowsCell (geo : Geometry) (t : Table) (i : ℕ) : Type 0 where
  pub update : Update
  pub shows : Shows (node_at t.nodes.items i).update update
  pub cell : IsCell geo (cell_of update)
  pub fits : FitsVolume geo update
  pub low : i < length t.nodes.items

-- the changes of entries
abbrev pub changes_of : List Entry → List Update
changes_of es = map (λ (e : Entry). e.change) es

-- These entries of a block, so many, were taken last, until no other may go; before, this cut was written.
pub record HasTaken (geo : Geometry) (t : Table) (queue : Queue) (q : List Pending) (loose : List Bool) (a number : ℕ) : Type 0 where
  pub older : List Entry
  pub es : List Entry
  pub takes : Takes geo t queue q (es ++ older)
  pub own : (e : Entry) → Contains es e → home_of geo (cell_of e.change) ≡ a
  pub all : NoOtherMayGo queue a (of_block (home_of geo) a (es ++ older))
  pub count : length es ≡ number
  pub cut : marks (has_id older) takes.ties.represents.entries ≡ loose

-- All that may go to a block is written then. Of it so many updates were not written before: their changes were put into the block, which showed what had been written of it.
pub record TakesAll (geo : Geometry) (queue : Queue) (q : List Pending) (loose : List Bool) (a : ℕ) (t : Table) (old new : List ℕ) (number : ℕ) : Type 0 where
  pub holds : Holds geo t queue q (union loose (ready (home_of geo) a q))
  pub last : HasTaken geo t queue q loose a number
  pub count : number ≡ taken (to_write (home_of geo) a q loose)
  pub put : IsPutAll geo (changes_of last.es) old new
  pub changes : (u : Update) → Contains (changes_of last.es) u ↔ TakesChange q (to_write (home_of geo) a q loose) u
