-- The cells on which a name in a directory rests, as they are gathered.
use Rattle.std.specs.Prelude.{ℕ, ◌⊎◌, List}
use Rattle.std.specs.List.{All, Contains}
use Rattle.model.specs.Layout.{Geometry}
use Rattle.model.specs.View.{View}
use Rattle.model.specs.Reach.{Path}
use Rattle.ordering.specs.Cuts.{Cell, Record}
use Rattle.ordering.specs.OneSlot.{AreGrounds, ArePointersKnown}
use Rattle.courses.specs.After.{IsGround}
use Rattle.updates.specs.Places.{IsCell}

-- No cell was taken away, and what came is a cell of the volume.
pub record Gathers (geo : Geometry) (old new : List Cell) : Type 0 where
  pub kept : (c : Cell) → Contains old c → Contains new c
  pub cells : All (IsCell geo) old → All (IsCell geo) new

-- The record of directory d is among these cells, and the tables of its pointers.
pub record HasDirectory (geo : Geometry) (view : View) (d : ℕ) (after : List Cell) : Type 0 where
  pub record_first : Contains after (Record d)
  pub pointers : (block : ℕ) → ArePointersKnown geo view after block d

-- The grounds of directory d are among these cells, whichever block is written, and no others besides the first ones.
pub record IsGrounded (geo : Geometry) (view : View) (d : ℕ) (first after : List Cell) : Type 0 where
  pub steps : ℕ
  pub path : Path geo view steps d
  pub needs : (block : ℕ) → AreGrounds geo view after block steps d path
  pub only : All (λ c. Contains first c ⊎ IsGround geo view c steps d path) after
