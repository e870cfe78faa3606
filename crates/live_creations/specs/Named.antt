-- The directory that a new name goes into, and why there is none.
use Rattle.std.specs.Prelude.{◌≡◌, ℕ, ◌≤◌, List, [], ◌∷◌, Option, None, Ok, IsTrue, IsFalse, is_none, length}
use Rattle.std.specs.Result.{result_err, result_unwrap_or}
use Rattle.model.specs.Layout.{Geometry, is_number, root}
use Rattle.model.specs.View.{View}
use Rattle.model.specs.Uses.{is_directory_at}
use Rattle.layout.specs.declared.refusal.Refusal.{Refusal}
use Rattle.layout.specs.declared.refusal.Refusal.TheVariants.{Exists}
use Rattle.frozen.specs.Kept.{Kept, frozen_view}
use Rattle.machine.specs.Below.{when}
use Rattle.machine.specs.Causes.{not_file}
use Rattle.machine.specs.Effects.{with_links}
use Rattle.machine.specs.Paths.{target, walk}
use Rattle.machine.specs.Room.{is_full}
use Rattle.live_places.specs.Chosen.{IsPlace}
use Rattle.live_plans.specs.declared.entering.NewEntry.{NewEntry}

-- the last of these parts is a name in the directory that holds it
abbrev pub is_there : Geometry → View → List (List ℕ) → Option Refusal
is_there geo view parts = when (is_none (result_err (target geo view parts))) Exists

-- the causes by which these parts are no new name
abbrev pub naming : Geometry → View → List (List ℕ) → List (Option Refusal)
naming geo view parts = result_err (walk geo view root parts) ∷ is_there geo view parts ∷ []

-- The last of these parts is a new name in this directory.
pub record IsNewIn (geo : Geometry) (view : View) (parts : List (List ℕ)) (d : ℕ) : Type 0 where
  pub directory : walk geo view root parts ≡ Ok d
  pub new : is_there geo view parts ≡ None

-- These parts lead to a file.
pub record IsFile (geo : Geometry) (view : View) (parts : List (List ℕ)) (i : ℕ) : Type 0 where
  pub leads : target geo view parts ≡ Ok i
  pub file : not_file geo view i ≡ None

-- the causes by which they lead to none
abbrev pub leading : Geometry → View → List (List ℕ) → List (Option Refusal)
leading geo view parts = result_err (target geo view parts) ∷ not_file geo view (result_unwrap_or (target geo view parts) 0) ∷ []

-- On what is kept, this entry may be made in a directory whose record has these links by now.
pub record MayEnter (kept : Kept) (new : NewEntry) : Type 0 where
  pub directory : IsTrue (is_directory_at kept.geometry (frozen_view kept) new.directory)
  pub links : ℕ
  pub parent : new.parent ≡ with_links ((frozen_view kept).inode new.directory) links
  pub number : IsTrue (is_number kept.geometry new.number)
  pub name : length new.name.now ≤ 56
  pub place : IsPlace kept.geometry (frozen_view kept) new.directory new.place
  pub room : IsFalse (is_full kept.geometry (frozen_view kept) new.directory)
