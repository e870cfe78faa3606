-- What holds of the blocks that are held for a snapshot, between commands.
use Rattle.model.specs.Layout.{Geometry}
use Rattle.machine.specs.State.{State}
use Rattle.plans_data.specs.Freeing.{HeldAreUnclaimed}
use Rattle.plans_data.specs.Write.{HeldAreMarked}

-- a held block is claimed by nobody, and is marked
pub record HeldAreRight (geo : Geometry) (old : State) : Type 0 where
  pub unclaimed : HeldAreUnclaimed geo old
  pub marked : HeldAreMarked old
