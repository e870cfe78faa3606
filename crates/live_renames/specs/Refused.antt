-- Between what a rename goes on, and the causes that refuse it, by the parts of its paths.
use Rattle.std.specs.Prelude.{◌≡◌, ℕ, Bool, List, [], ◌∷◌, length, nat_le, Option, Ok, is_none}
use Rattle.std.specs.Result.{result_err}
use Rattle.model.specs.Layout.{Geometry, root}
use Rattle.model.specs.View.{View}
use Rattle.layout.specs.declared.refusal.Refusal.{Refusal}
use Rattle.layout.specs.declared.refusal.Refusal.TheVariants.{Exists, IsRoot}
use Rattle.machine.specs.Below.{when}
use Rattle.machine.specs.Causes as machine
use Rattle.machine.specs.Paths.{target, walk}
use Rattle.machine.specs.Room.{blocks_to_enter}
use Rattle.live_plans.specs.Found.{IsFoundAt}
use Rattle.live_renames.specs.declared.renaming.Ends.{Ends}

-- The first path leads to this entry, and the walk along the second one ends in this directory.
pub record AreEnds (geo : Geometry) (view : View) (ps qs : List (List ℕ)) (ends : Ends) : Type 0 where
  pub some : ps ≡ [] → ⊥
  pub found : IsFoundAt geo view ps ends.found
  pub directory : walk geo view root qs ≡ Ok ends.directory

-- the causes up to there
abbrev pub early : Geometry → View → List (List ℕ) → List (List ℕ) → List (Option Refusal)
early geo view ps qs =
    when (nat_le (length ps) 0) IsRoot ∷ when (nat_le (length qs) 0) IsRoot ∷ result_err (target geo view ps) ∷ result_err (walk geo view root qs) ∷ []

-- the second path leads somewhere
abbrev pub taken : Geometry → View → List (List ℕ) → Option Refusal
taken geo view qs = when (is_none (result_err (target geo view qs))) Exists

-- the causes from there, where number i is to get a name in directory d, which is another one than that of its entry or not
abbrev pub late : Geometry → View → List (List ℕ) → ℕ → ℕ → Bool → List (Option Refusal)
late geo view qs i d across =
    machine.only across (machine.not_file geo view i) ∷ taken geo view qs ∷ machine.only across (machine.too_many_links view i)
    ∷ machine.only across (machine.full geo view d) ∷ machine.only across (machine.too_few geo view (blocks_to_enter geo view d)) ∷ []
