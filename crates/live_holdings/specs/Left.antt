-- What is left of the repairs of a check.
use Rattle.std.specs.Prelude.{◌≡◌, ℕ, ◌<◌, nat_le, false, [], ◌∷◌, Option, Some, length, slice_get, slice_index_or}
use Rattle.findings.specs.declared.repair.Repair.{Repair}
use Rattle.layout.specs.declared.refusal.Refusal.{Refusal}
use Rattle.layout.specs.declared.refusal.Refusal.TheVariants.{AlreadyDone, BadIndex}
use Rattle.machine.specs.Below.{first_of, when}
use Rattle.live_states.specs.Holdings.{Repairs}

-- Repair k is r, and is not done.
pub record IsLeft (repairs : Repairs) (k : ℕ) (r : Repair) : Type 0 where
  pub there : slice_get repairs.list k ≡ Some r
  pub undone : slice_index_or repairs.done k false ≡ false
  pub within : k < length repairs.done

-- why no repair k is left
abbrev pub why_not_left : Repairs → ℕ → Option Refusal
why_not_left repairs k = first_of (when (nat_le (length repairs.list) k) BadIndex ∷ when (slice_index_or repairs.done k false) AlreadyDone ∷ [])
