-- The first cause that refuses a removal, by the parts of the path.
use Rattle.std.proofs.Common.{◌≡◌, ◌<◌, ℕ, false, not, leb, List, [], ◌∷◌, length, Option, Some, None, Ok, Err, refl, ap, ◌∙◌, arith, IsTrue, IsFalse}
use Rattle.std.proofs.lemmas.Bool.{lt-leb}
use Rattle.std.specs.Option.{option_or, option_map_or}
use Rattle.std.specs.Result.{result_err, result_unwrap_or}
use Rattle.std.specs.Prelude.{is_none, unwrap_or}
use Rattle.model.specs.Layout.{Geometry}
use Rattle.model.specs.View.{View}
use Rattle.model.specs.Uses.{is_directory_at}
use Rattle.layout.specs.declared.refusal.Refusal.{Refusal}
use Rattle.layout.specs.declared.refusal.Refusal.TheVariants.{BadName, IsDirectory, IsRoot, NotDirectory, NotEmpty}
use Rattle.machine.specs.Below.{first_of, when}
use Rattle.machine.specs.Causes.{causes, has_names, not_directory, not_file, refusal_of}
use Rattle.machine.specs.Command.{Rmdir, Unlink}
use Rattle.machine.specs.Paths.{parts_of, target}
use Rattle.machine.specs.State.{State}
use Rattle.live_plans.specs.declared.locating.Found.{Found}
use Rattle.live_removals.specs.Entries.{IsDirectoryAt, IsFileAt, directory_refusal, file_refusal, led_to}

-- ---- of the bytes of a path

unlink_causes : Geometry → View → Option (List (List ℕ)) → Option Refusal
unlink_causes geo view o =
    first_of (when (is_none o) BadName ∷ when (option_map_or (λ ps. leb (length ps) 0) o false) IsRoot ∷ result_err (target geo view (unwrap_or o [])) ∷ not_file geo view (led_to geo view (unwrap_or o [])) ∷ [])

rmdir_causes : Geometry → View → Option (List (List ℕ)) → Option Refusal
rmdir_causes geo view o =
    first_of (when (is_none o) BadName ∷ when (option_map_or (λ ps. leb (length ps) 0) o false) IsRoot ∷ result_err (target geo view (unwrap_or o []))
    ∷ not_directory geo view (led_to geo view (unwrap_or o [])) ∷ when (has_names geo view (led_to geo view (unwrap_or o []))) NotEmpty ∷ [])

module _ (geo : Geometry) (old : State) (path : List ℕ) where
  pub unlink_refusal : (parts : List (List ℕ)) → parts_of path ≡ Some parts → refusal_of geo old (Unlink path) ≡ file_refusal geo old.view parts
  unfolding causes unlink_causes
  unlink_refusal parts is = ap (unlink_causes geo old.view) is

  pub unlink_bad : parts_of path ≡ None → refusal_of geo old (Unlink path) ≡ Some BadName
  unfolding causes unlink_causes
  unlink_bad is = ap (unlink_causes geo old.view) is

  pub rmdir_refusal : (parts : List (List ℕ)) → parts_of path ≡ Some parts → refusal_of geo old (Rmdir path) ≡ directory_refusal geo old.view parts
  unfolding causes rmdir_causes
  rmdir_refusal parts is = ap (rmdir_causes geo old.view) is

  pub rmdir_bad : parts_of path ≡ None → refusal_of geo old (Rmdir path) ≡ Some BadName
  unfolding causes rmdir_causes
  rmdir_bad is = ap (rmdir_causes geo old.view) is

-- ---- of its parts

module _ (geo : Geometry) (view : View) (parts : List (List ℕ)) where
  -- it is "/", or leads nowhere, or there is this cause of what it leads to
  abbrev refusal_with : (ℕ → Option Refusal) → Option Refusal
  refusal_with rest = option_or (when (leb (length parts) 0) IsRoot) (option_or (result_err (target geo view parts)) (rest (led_to geo view parts)))

  some_parts : (ps : List (List ℕ)) → (ps ≡ [] → ⊥) → 0 < length ps
  some_parts [] some = absurd (some refl)
  some_parts (p ∷ ps) some = omega arith

  no_root : (rest : ℕ → Option Refusal) → (parts ≡ [] → ⊥) → refusal_with rest ≡ option_or (result_err (target geo view parts)) (rest (led_to geo view parts))
  no_root rest some = ap (λ b. option_or (when b IsRoot) (option_or (result_err (target geo view parts)) (rest (led_to geo view parts)))) (lt-leb (length parts) 0 (some_parts parts some))

  at_root : (rest : ℕ → Option Refusal) → parts ≡ [] → refusal_with rest ≡ Some IsRoot
  at_root rest none = ap (λ b. option_or (when b IsRoot) (option_or (result_err (target geo view parts)) (rest (led_to geo view parts)))) (ap (λ (ps : List (List ℕ)). leb (length ps) 0) none)

  leads_nowhere : (rest : ℕ → Option Refusal) (r : Refusal) → (parts ≡ [] → ⊥) → target geo view parts ≡ Err r → refusal_with rest ≡ Some r
  leads_nowhere rest r some is = no_root rest some ∙ ap (λ t. option_or (result_err t) (rest (result_unwrap_or t 0))) is

  leads_to : (rest : ℕ → Option Refusal) (i : ℕ) → (parts ≡ [] → ⊥) → target geo view parts ≡ Ok i → refusal_with rest ≡ rest i
  leads_to rest i some is = no_root rest some ∙ ap (λ t. option_or (result_err t) (rest (result_unwrap_or t 0))) is

  -- ---- a file

  abbrev of_file : ℕ → Option Refusal
  of_file i = option_or (when (is_directory_at geo view i) IsDirectory) None

  pub file_root : parts ≡ [] → file_refusal geo view parts ≡ Some IsRoot
  file_root none = at_root of_file none

  pub file_nowhere : (r : Refusal) → (parts ≡ [] → ⊥) → target geo view parts ≡ Err r → file_refusal geo view parts ≡ Some r
  file_nowhere r some is = leads_nowhere of_file r some is

  pub no_file : (i : ℕ) → (parts ≡ [] → ⊥) → target geo view parts ≡ Ok i → IsTrue (is_directory_at geo view i) → file_refusal geo view parts ≡ Some IsDirectory
  no_file i some is directory = leads_to of_file i some is ∙ ap (λ b. option_or (when b IsDirectory) None) directory

  pub file_accepted : (found : Found) → IsFileAt geo view parts found → file_refusal geo view parts ≡ None
  file_accepted found is = leads_to of_file found.number is.below_root is.at.number ∙ ap (λ b. option_or (when b IsDirectory) None) is.file

  -- ---- a directory

  abbrev of_directory : ℕ → Option Refusal
  of_directory i = option_or (when (not (is_directory_at geo view i)) NotDirectory) (option_or (when (has_names geo view i) NotEmpty) None)

  pub directory_root : parts ≡ [] → directory_refusal geo view parts ≡ Some IsRoot
  directory_root none = at_root of_directory none

  pub directory_nowhere : (r : Refusal) → (parts ≡ [] → ⊥) → target geo view parts ≡ Err r → directory_refusal geo view parts ≡ Some r
  directory_nowhere r some is = leads_nowhere of_directory r some is

  pub no_directory : (i : ℕ) → (parts ≡ [] → ⊥) → target geo view parts ≡ Ok i → IsFalse (is_directory_at geo view i) → directory_refusal geo view parts ≡ Some NotDirectory
  no_directory i some is file = leads_to of_directory i some is ∙ ap (λ b. option_or (when (not b) NotDirectory) (option_or (when (has_names geo view i) NotEmpty) None)) file

  pub not_empty : (i : ℕ) → (parts ≡ [] → ⊥) → target geo view parts ≡ Ok i → IsTrue (is_directory_at geo view i) → IsTrue (has_names geo view i) → directory_refusal geo view parts ≡ Some NotEmpty
  not_empty i some is directory names =
      leads_to of_directory i some is ∙ ap (λ b. option_or (when (not b) NotDirectory) (option_or (when (has_names geo view i) NotEmpty) None)) directory
      ∙ ap (λ b. option_or (when b NotEmpty) None) names

  pub directory_accepted : (found : Found) → IsDirectoryAt geo view parts found → directory_refusal geo view parts ≡ None
  directory_accepted found is =
      leads_to of_directory found.number is.below_root is.at.number
      ∙ ap (λ b. option_or (when (not b) NotDirectory) (option_or (when (has_names geo view found.number) NotEmpty) None)) is.directory
      ∙ ap (λ b. option_or (when b NotEmpty) None) is.empty
