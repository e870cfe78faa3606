-- What a path leads to, for those who look.
use Rattle.std.proofs.Common.{◌≡◌, ◌%◌, ℕ, Bool, not, ◌&&◌, ◌||◌, true, false, eqb, ltb, leb, if◌then◌else◌, List, [], ◌∷◌, Option, Some, None, Result, Ok, Err, IsTrue, inl, inr, refl, sym, ap, ◌∙◌, subst}
use Rattle.std.proofs.lemmas.Bool.{and_parts, both_ways, cases_Bool, eqb-true}
use Rattle.std.specs.Prelude.{is_none, unwrap_or}
use Rattle.std.specs.Option.{option_or}
use Rattle.std.specs.Result.{result_err, result_unwrap_or}
use Rattle.layout.specs.declared.refusal.Refusal.{Refusal}
use Rattle.layout.specs.declared.refusal.Refusal.TheVariants.{BadName, NotDirectory}
use Rattle.model.specs.Layout.{Geometry, is_number}
use Rattle.model.specs.Shape.{most_blocks}
use Rattle.model.specs.Uses.{blocks_of, is_directory, is_directory_at, is_sound}
use Rattle.model.specs.View.{Inode, View}
use Rattle.model.proofs.Same.{reachable_number}
use Rattle.ordering.specs.Cuts.{Pending, users_view}
use Rattle.machine.specs.Below.{first_of, when}
use Rattle.machine.specs.Causes.{causes, refusal_of}
use Rattle.machine.specs.Command.{ListNames, Stat}
use Rattle.machine.specs.Paths.{number_at, parts_of, target}
use Rattle.machine.specs.State.{State}
use Rattle.machine.proofs.Decisions.{reachable_sound, sound_parts}
use Rattle.machine.proofs.Walks.{parts_good, target_reachable}
use Rattle.frozen.specs.Kept.{Kept, KeepsMetadata, frozen_view}
use Rattle.metadata.specs.Shown.{Shows}
use Rattle.metadata.proofs.ShownLemmas.{shows_metadata}
use Rattle.live_paths.specs.Shown.{IsShownBy}
use Rattle.live_states.specs.Holdings.{Holdings}
use Rattle.live_states.specs.Volume.{IsVolume}
use Rattle.live.specs.Alive.{IsFirstCause}
use Rattle.live.specs.Kinds.{kind_of, mode_of}
use Rattle.live.specs.declared.looking.Kind.TheVariants.{Directory, File}

-- the view of a volume's users has the metadata that is kept
pub shown : (kept : Kept) (holdings : Holdings) (q : List Pending) (disk : View) → KeepsMetadata kept → IsVolume kept holdings q disk → IsShownBy kept (users_view disk q)
shown kept holdings q disk keeps volume = shows_metadata kept (users_view disk q) keeps volume.shows

pub same_directory : (geo : Geometry) (view other : View) (d : ℕ) → view.inode d ≡ other.inode d → is_directory_at geo view d ≡ is_directory_at geo other d
same_directory geo view other d e = ap (λ r. (is_number geo d && is_sound geo r) && is_directory r) e

-- ---- refusals in order

list_causes : Geometry → View → Option (List (List ℕ)) → Option Refusal
list_causes geo view o =
    first_of (when (is_none o) BadName ∷ result_err (target geo view (unwrap_or o [])) ∷ when (not (is_directory_at geo view (result_unwrap_or (target geo view (unwrap_or o [])) 0))) NotDirectory ∷ [])

stat_causes : Geometry → View → Option (List (List ℕ)) → Option Refusal
stat_causes geo view o = first_of (when (is_none o) BadName ∷ result_err (target geo view (unwrap_or o [])) ∷ [])

module _ (geo : Geometry) (old : State) (path : List ℕ) where
  pub list_bad : parts_of path ≡ None → refusal_of geo old (ListNames path) ≡ Some BadName
  unfolding causes list_causes
  list_bad is = ap (list_causes geo old.view) is

  pub stat_bad : parts_of path ≡ None → refusal_of geo old (Stat path) ≡ Some BadName
  unfolding causes stat_causes
  stat_bad is = ap (stat_causes geo old.view) is

  module _ (parts : List (List ℕ)) (is : parts_of path ≡ Some parts) where
    pub list_nowhere : (r : Refusal) → target geo old.view parts ≡ Err r → refusal_of geo old (ListNames path) ≡ Some r
    unfolding causes list_causes
    list_nowhere r e =
        ap (list_causes geo old.view) is ∙ ap (λ t. option_or (result_err t) (option_or (when (not (is_directory_at geo old.view (result_unwrap_or t 0))) NotDirectory) None)) e

    pub stat_nowhere : (r : Refusal) → target geo old.view parts ≡ Err r → refusal_of geo old (Stat path) ≡ Some r
    unfolding causes stat_causes
    stat_nowhere r e = ap (stat_causes geo old.view) is ∙ ap (λ t. option_or (result_err t) None) e

    module _ (i : ℕ) (e : target geo old.view parts ≡ Ok i) where
      pub number_there : number_at geo old.view path ≡ i
      number_there = ap (λ o. result_unwrap_or (target geo old.view (unwrap_or o [])) 0) is ∙ ap (λ t. result_unwrap_or t 0) e

      pub stat_accepts : refusal_of geo old (Stat path) ≡ None
      unfolding causes stat_causes
      stat_accepts = ap (stat_causes geo old.view) is ∙ ap (λ t. option_or (result_err t) None) e

      list_there : refusal_of geo old (ListNames path) ≡ option_or (when (not (is_directory_at geo old.view i)) NotDirectory) None
      unfolding causes list_causes
      list_there =
          ap (list_causes geo old.view) is ∙ ap (λ t. option_or (result_err t) (option_or (when (not (is_directory_at geo old.view (result_unwrap_or t 0))) NotDirectory) None)) e

      pub list_of_file : is_directory_at geo old.view i ≡ false → refusal_of geo old (ListNames path) ≡ Some NotDirectory
      list_of_file f = list_there ∙ ap (λ b. option_or (when (not b) NotDirectory) None) f

      pub list_accepts : is_directory_at geo old.view i ≡ true → refusal_of geo old (ListNames path) ≡ None
      list_accepts t = list_there ∙ ap (λ b. option_or (when (not b) NotDirectory) None) t

-- a path that leads somewhere leads to a number of the volume
pub number_of : (kept : Kept) (holdings : Holdings) (q : List Pending) (disk : View) → IsVolume kept holdings q disk → (path : List ℕ) (parts : List (List ℕ)) → parts_of path ≡ Some parts
    → (i : ℕ) → target kept.geometry (users_view disk q) parts ≡ Ok i → IsTrue (is_number kept.geometry i)
number_of kept holdings q disk volume path parts is i e =
    reachable_number kept.geometry (users_view disk q) i (target_reachable kept.geometry (users_view disk q) volume.beginning.stands.balance.rules parts i (parts_good path parts is) e)

-- what it leads to is sound
pub sound_there : (kept : Kept) (holdings : Holdings) (q : List Pending) (disk : View) → IsVolume kept holdings q disk → (path : List ℕ) (parts : List (List ℕ)) → parts_of path ≡ Some parts
    → (i : ℕ) → target kept.geometry (users_view disk q) parts ≡ Ok i → IsTrue (is_sound kept.geometry ((users_view disk q).inode i))
sound_there kept holdings q disk volume path parts is i e =
    let reached = target_reachable kept.geometry (users_view disk q) volume.beginning.stands.balance.rules parts i (parts_good path parts is) e in
    (sound_parts kept.geometry (users_view disk q) i (reachable_sound kept.geometry (users_view disk q) i reached)).1

only_first : (a b : Bool) → b ≡ false → IsTrue (a || b) → IsTrue a
only_first true b f t = refl
only_first false b f t = absurd (both_ways b f t)

-- A sound record has the mode of its kind.
pub mode_of_sound : (geo : Geometry) (inode : Inode) → IsTrue (is_sound geo inode) → mode_of (kind_of inode) ≡ inode.mode
mode_of_sound geo inode sound = elim (cases_Bool (is_directory inode)) [
  | inl t ↦ ap (λ b. mode_of (if b then Directory else File)) t ∙ sym (eqb-true inode.mode 2 t)
  | inr f ↦
      let rest = λ (b : Bool). b && ltb 0 inode.size && eqb (inode.size % 1024) 0 in
      let first = (and_parts (eqb inode.mode 1 || rest (is_directory inode)) (leb (blocks_of inode.size) (most_blocks geo)) sound).0 in
      ap (λ b. mode_of (if b then Directory else File)) f ∙ sym (eqb-true inode.mode 1 (only_first (eqb inode.mode 1) (rest (is_directory inode)) (ap rest f) first))
]

-- what is said of the blocks that are lent holds of those that are kept
pub led : (frozen kept : Kept) → frozen ≡ kept → (r : Result ℕ Refusal) (parts : List (List ℕ)) → ((view : View) → IsShownBy frozen view → r ≡ target frozen.geometry view parts)
    → (view : View) → IsShownBy kept view → r ≡ target kept.geometry view parts
led frozen kept e r parts = subst (λ (k : Kept). (view : View) → IsShownBy k view → r ≡ target k.geometry view parts) e

-- ---- the first cause of a refusal, whatever users see where this is kept

pub list_badly : (kept : Kept) (path : List ℕ) → parts_of path ≡ None → IsFirstCause kept (ListNames path) BadName
list_badly kept path is old shows = inl (list_bad kept.geometry old path is)

pub stat_badly : (kept : Kept) (path : List ℕ) → parts_of path ≡ None → IsFirstCause kept (Stat path) BadName
stat_badly kept path is old shows = inl (stat_bad kept.geometry old path is)

module _ (frozen kept : Kept) (same : frozen ≡ kept) (keeps : KeepsMetadata kept) (path : List ℕ) (parts : List (List ℕ)) (is : parts_of path ≡ Some parts)
    (there : Result ℕ Refusal) (leads : (view : View) → IsShownBy frozen view → there ≡ target frozen.geometry view parts) where
  leads_to : (old : State) → Shows kept old.view → there ≡ target kept.geometry old.view parts
  leads_to old shows = led frozen kept same there parts leads old.view (shows_metadata kept old.view keeps shows)

  pub list_to_nowhere : (r : Refusal) → there ≡ Err r → IsFirstCause kept (ListNames path) r
  list_to_nowhere r e old shows = inl (list_nowhere kept.geometry old path parts is r (sym (leads_to old shows) ∙ e))

  pub stat_to_nowhere : (r : Refusal) → there ≡ Err r → IsFirstCause kept (Stat path) r
  stat_to_nowhere r e old shows = inl (stat_nowhere kept.geometry old path parts is r (sym (leads_to old shows) ∙ e))

  pub list_to_file : (i : ℕ) → there ≡ Ok i → is_directory_at frozen.geometry (frozen_view frozen) i ≡ false → IsFirstCause kept (ListNames path) NotDirectory
  list_to_file i e file old shows =
      inl (list_of_file kept.geometry old path parts is i (sym (leads_to old shows) ∙ e)
      (sym (same_directory kept.geometry (frozen_view kept) old.view i (shows.inode i)) ∙ ap (λ (k : Kept). is_directory_at k.geometry (frozen_view k) i) (sym same) ∙ file))
