-- Room in the table.
use Rattle.std.specs.Prelude.{ℕ, ◌+◌, ◌≤◌, ◌<◌, ◌^◌, Bool, List, length}
use Rattle.std.specs.Vec.{vec_capacity}
use Rattle.model.specs.Layout.{Geometry}
use Rattle.ordering.specs.Cuts.{Pending}
use Rattle.queue_model.specs.Entries.{Queue}
use Rattle.lists.specs.Stacks.{room_of}
use Rattle.softdep_queue.specs.declared.table.Table.{Table}
use Rattle.softdep_queue.specs.Ties.{Holds}

-- so many more updates find room, which come after so many cells in all
pub record HasRoom (t : Table) (updates cells : ℕ) : Type 0 where
  pub nodes : length t.nodes.items + updates ≤ vec_capacity t.nodes
  pub taken : length t.nodes.items + updates ≤ vec_capacity t.taken
  pub ready : length t.nodes.items + updates ≤ room_of t.ready
  pub few : room_of t.ready < 2 ^ 32
  pub links : cells ≤ t.chains.room

-- the table holds some pending updates
pub record IsTable (geo : Geometry) (t : Table) : Type 0 where
  pub queue : Queue
  pub q : List Pending
  pub loose : List Bool
  pub holds : Holds geo t queue q loose
