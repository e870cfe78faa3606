-- One more snapshot would be too many.
use Rattle.std.proofs.Common.{◌≡◌, ◌⊎◌, ℕ, true, List, inl, inr, ◌∙◌}
use Rattle.layout.specs.declared.refusal.Refusal.TheVariants.{NoMemory, Device, TooManySnapshots}
use Rattle.machine.specs.Causes.{FirstRefusal}
use Rattle.machine.specs.Command.{Freeze}
use Rattle.machine.specs.Standing.{too_many}
use Rattle.live_states.specs.Holdings.{Beside}
use Rattle.live_states.proofs.Images.{same_room}
use Rattle.live.specs.Alive.{Alive, state_of}
use Rattle.snapshot.specs.Goes.{IsBeside}
use Rattle.snapshot.proofs.Standing.{refuses_freeze}

-- that is the first cause, whatever stands beside the volume
pub full_cause : {D : Type 0} (image : List (List ℕ)) (old : Alive D) → too_many old.holdings.snapshots ≡ true → (beside : Beside) → IsBeside image old beside
    → (TooManySnapshots ≡ NoMemory) ⊎ ((TooManySnapshots ≡ Device) ⊎ FirstRefusal old.kept.geometry (state_of image old beside) Freeze TooManySnapshots)
full_cause image old full beside is =
    inr (inr (inl (refuses_freeze old.kept.geometry (state_of image old beside) (same_room old.holdings.snapshots beside.snapshots is.belongs ∙ full))))
