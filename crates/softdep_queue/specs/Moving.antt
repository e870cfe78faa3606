-- Pending updates that move together.
use Rattle.std.specs.Prelude.{◌≡◌, ℕ, zero, suc, ◌+◌, ◌*◌, ◌/◌, ◌≤◌, Bool, ◌&&◌, ◌==◌, List, [], ◌∷◌, Option, Some, None, length}
use Rattle.std.specs.List.{cons_option}
use Rattle.model.specs.Layout.{Geometry}
use Rattle.ordering.specs.Cuts.{Cell, Pending, IsClosed, cell_of}
use Rattle.queue_model.specs.Entries.{Queue}
use Rattle.updates.specs.declared.change.Update.{Update}
use Rattle.updates.specs.Places.{IsUpdate}
use Rattle.softdep_queue.specs.declared.table.Node.{Node}
use Rattle.softdep_queue.specs.declared.table.Table.{Table}
use Rattle.softdep_queue.specs.Ties.{Holds, node_at}

-- the cells that an update changes or comes after
abbrev pub cells_in : Option Update → ℕ
cells_in None = 0
cells_in (Some u) = 1 + length u.after.items

-- those of the first so many nodes
abbrev pub cells_by : List Node → ℕ → ℕ
cells_by nodes zero = 0
cells_by nodes (suc n) = cells_by nodes n + cells_in (node_at nodes n).update

-- those of all nodes
abbrev pub cells_of : List Node → ℕ
cells_of nodes = cells_by nodes (length nodes)

-- whether an update was taken, if there is one
abbrev pub flag_if : Option Update → Bool → Option Bool
flag_if None b = None
flag_if (Some u) b = Some b

-- which of the updates of the first so many nodes were taken, the last first
abbrev pub taken_by : List Node → ℕ → List Bool
taken_by nodes zero = []
taken_by nodes (suc n) = cons_option (flag_if (node_at nodes n).update (node_at nodes n).taken) (taken_by nodes n)

-- what a cut takes of a block
abbrev pub of_home : (Cell → ℕ) → ℕ → List Pending → List Bool → List Bool
of_home home a [] cut = []
of_home home a (u ∷ q) [] = []
of_home home a (u ∷ q) (b ∷ cut) = (b && home (cell_of u.change) == a) ∷ of_home home a q cut

-- what a cut takes of each block is closed: no block waits in it for another one
abbrev pub IsClosedByBlocks : (Cell → ℕ) → List Pending → List Bool → Type 0
IsClosedByBlocks home q cut = (a : ℕ) → IsClosed q (of_home home a q cut)

-- each update that nodes show is one of the volume's
abbrev pub AreUpdates : Geometry → List Node → Type 0
AreUpdates geo nodes = (i : ℕ) (u : Update) → (node_at nodes i).update ≡ Some u → IsUpdate geo u

-- the places that a table may have: twice as many as updates are pending, one for each 16 of the volume's cells, and a few
abbrev pub most_places : Table → ℕ
most_places t = 2 * t.pending + length t.latest.items / 16 + 64

-- so few places are of updates that are on the device
abbrev pub IsCompact : Table → Type 0
IsCompact t = length t.nodes.items ≤ most_places t

-- the table holds these pending updates, of which this cut was written, and each place is that of one of them
pub record HoldsAlone (geo : Geometry) (t : Table) (q : List Pending) (loose : List Bool) : Type 0 where
  pub queue : Queue
  pub holds : Holds geo t queue q loose
  pub alone : length t.nodes.items ≡ length q
