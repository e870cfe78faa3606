-- Updates in the making.
use Rattle.std.specs.Prelude.{◌≡◌, ℕ, List, Some, map}
use Rattle.std.specs.List.{All}
use Rattle.model.specs.Layout.{Geometry}
use Rattle.ordering.specs.Cuts.{Pending}
use Rattle.softdep.specs.Queued.{added}
use Rattle.updates.specs.declared.change.Update.{Update}
use Rattle.updates.specs.Places.{IsUpdate}
use Rattle.updates.specs.Values.{written}

-- the volume's geometry, the file in whose name the updates are issued, and the updates, the first first
pub record Draft : Type 0 where
  pub geometry : Geometry
  pub file : ℕ
  pub updates : List Update

-- each is an update of a cell of the volume, in the name of this file
pub record AreOf (geo : Geometry) (file : ℕ) (us : List Update) : Type 0 where
  pub cells : All (IsUpdate geo) us
  pub named : All (λ (u : Update). u.file ≡ Some file) us

-- what is pending with these updates, the first first, over what was pending
abbrev pub over : List Pending → List Update → List Pending
over q us = added q (map written us)

-- the same draft, with updates added that do this to what is pending
pub record GoesOn (old new : Draft) (more : List Pending → List Pending) : Type 0 where
  pub geometry : new.geometry ≡ old.geometry
  pub file : new.file ≡ old.file
  pub pending : (q : List Pending) → over q new.updates ≡ more (over q old.updates)
