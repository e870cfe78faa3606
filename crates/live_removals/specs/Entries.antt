-- The entries that may be taken away, and why a path leads to none.
use Rattle.std.specs.Prelude.{◌≡◌, ℕ, ◌/◌, nat_le, List, [], ◌∷◌, length, Option, IsTrue, IsFalse}
use Rattle.std.specs.Result.{result_err, result_unwrap_or}
use Rattle.model.specs.Layout.{Geometry, is_number}
use Rattle.model.specs.View.{View}
use Rattle.model.specs.Uses.{IsClaim, is_directory_at}
use Rattle.layout.specs.declared.refusal.Refusal.{Refusal}
use Rattle.layout.specs.declared.refusal.Refusal.TheVariants.{IsRoot, NotEmpty}
use Rattle.machine.specs.Below.{first_of, when}
use Rattle.machine.specs.Causes.{has_names, not_directory, not_file}
use Rattle.machine.specs.Paths.{target}
use Rattle.live_plans.specs.Found.{IsFoundAt}
use Rattle.live_plans.specs.declared.locating.Found.{Found}

-- the entry stands in a block of a directory, and names a number that the volume has
pub record IsEntry (geo : Geometry) (view : View) (found : Found) : Type 0 where
  pub directory : IsTrue (is_directory_at geo view found.directory)
  pub claim : IsClaim geo view found.directory (found.slot / 16) found.block
  pub number : IsTrue (is_number geo found.number)

-- these parts lead to the entry of a file
pub record IsFileAt (geo : Geometry) (view : View) (parts : List (List ℕ)) (found : Found) : Type 0 where
  pub below_root : parts ≡ [] → ⊥
  pub at : IsFoundAt geo view parts found
  pub file : IsFalse (is_directory_at geo view found.number)

-- and to the entry of a directory without names
pub record IsDirectoryAt (geo : Geometry) (view : View) (parts : List (List ℕ)) (found : Found) : Type 0 where
  pub below_root : parts ≡ [] → ⊥
  pub at : IsFoundAt geo view parts found
  pub directory : IsTrue (is_directory_at geo view found.number)
  pub empty : IsFalse (has_names geo view found.number)

-- what these parts lead to, if they lead somewhere
abbrev pub led_to : Geometry → View → List (List ℕ) → ℕ
led_to geo view parts = result_unwrap_or (target geo view parts) 0

-- the first cause that refuses to unlink what these parts lead to
abbrev pub file_refusal : Geometry → View → List (List ℕ) → Option Refusal
file_refusal geo view parts = first_of (when (nat_le (length parts) 0) IsRoot ∷ result_err (target geo view parts) ∷ not_file geo view (led_to geo view parts) ∷ [])

-- and to remove it as a directory
abbrev pub directory_refusal : Geometry → View → List (List ℕ) → Option Refusal
directory_refusal geo view parts =
    first_of (when (nat_le (length parts) 0) IsRoot ∷ result_err (target geo view parts) ∷ not_directory geo view (led_to geo view parts) ∷ when (has_names geo view (led_to geo view parts)) NotEmpty ∷ [])
