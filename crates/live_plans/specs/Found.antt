-- The entry that a path leads to.
use Rattle.std.specs.Prelude.{◌≡◌, ℕ, ◌/◌, List, Some, Ok}
use Rattle.model.specs.Layout.{Geometry, root}
use Rattle.model.specs.View.{View}
use Rattle.model.specs.Uses.{claim_at}
use Rattle.model.specs.Slots as model
use Rattle.machine.specs.Paths.{last_part, slot_of, target, walk}
use Rattle.live_plans.specs.declared.locating.Found.{Found}

-- The last of these parts stands in this slot of this directory, in this block of it, and gives the number its name.
pub record IsFoundAt (geo : Geometry) (view : View) (parts : List (List ℕ)) (found : Found) : Type 0 where
  pub directory : walk geo view root parts ≡ Ok found.directory
  pub slot : slot_of geo view found.directory (last_part parts) ≡ Some found.slot
  pub block : claim_at geo view found.directory (found.slot / 16) ≡ Some found.block
  pub entry : model.slot geo view found.directory found.slot ≡ model.Good found.number (last_part parts)
  pub number : target geo view parts ≡ Ok found.number
