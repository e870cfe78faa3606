-- Why a path is not opened, and what opening it does.
use Rattle.std.proofs.Common.{◌≡◌, ◌<◌, ℕ, Bool, ◌&&◌, not, true, false, List, [], ◌∷◌, Option, Some, None, Result, Ok, Err, IsTrue, IsFalse, IsSome, inl, refl, sym, ap, ap₂, ◌∙◌, subst, slice_index_or}
use Rattle.std.specs.Prelude.{is_none, unwrap_or}
use Rattle.std.specs.Option.{option_map, option_or}
use Rattle.std.specs.Result.{result_err, result_unwrap_or}
use mathlib.Core.Path.{fun_ext}
use Rattle.layout.specs.declared.refusal.Refusal.{Refusal}
use Rattle.layout.specs.declared.refusal.Refusal.TheVariants.{BadName, IsDirectory, TooManyOpen}
use Rattle.model.specs.Cells.{put_at}
use Rattle.model.specs.Layout.{Geometry, is_number}
use Rattle.model.specs.Uses.{is_directory, is_directory_at, is_sound}
use Rattle.model.specs.View.{View}
use Rattle.machine.specs.Below.{any_below, first_of, when}
use Rattle.machine.specs.Causes.{Accepts, causes, not_file, refusal_of}
use Rattle.machine.specs.Command.{Number, Open}
use Rattle.machine.specs.Effects.{Opens}
use Rattle.machine.specs.Paths.{number_at, parts_of, target}
use Rattle.machine.specs.State.{Plan, State, handle_count}
use Rattle.machine.proofs.Decisions.{any_here, any_none}
use Rattle.frozen.specs.Kept.{Kept, KeepsMetadata, frozen_view}
use Rattle.metadata.specs.Shown.{Shows}
use Rattle.metadata.proofs.ShownLemmas.{shows_metadata}
use Rattle.live_paths.specs.Shown.{IsShownBy}
use Rattle.live_states.specs.Holdings.{Has, Holdings, Repairs, going_on, held_by, opened_by, plan_by, plan_of}
use Rattle.live_states.specs.Planned.{IsFirstCauseWith, IsQuietlyDone}
use Rattle.live_holdings.specs.Handles.{IsFreeHandle, IsOpened, NoFreeHandle}

-- ---- refusals in order

no_handle : State → Option Refusal
no_handle old = when (not (any_below handle_count (λ h. is_none (old.opened h)))) TooManyOpen

open_causes : Geometry → View → Option Refusal → Option (List (List ℕ)) → Option Refusal
open_causes geo view last o =
    first_of (when (is_none o) BadName ∷ result_err (target geo view (unwrap_or o [])) ∷ not_file geo view (result_unwrap_or (target geo view (unwrap_or o [])) 0) ∷ last ∷ [])

module _ (geo : Geometry) (old : State) (path : List ℕ) where
  bad : parts_of path ≡ None → refusal_of geo old (Open path) ≡ Some BadName
  unfolding causes open_causes no_handle
  bad is = ap (open_causes geo old.view (no_handle old)) is

  module _ (parts : List (List ℕ)) (is : parts_of path ≡ Some parts) where
    nowhere : (r : Refusal) → target geo old.view parts ≡ Err r → refusal_of geo old (Open path) ≡ Some r
    unfolding causes open_causes no_handle
    nowhere r e =
        ap (open_causes geo old.view (no_handle old)) is
        ∙ ap (λ t. option_or (result_err t) (option_or (not_file geo old.view (result_unwrap_or t 0)) (option_or (no_handle old) None))) e

    module _ (i : ℕ) (e : target geo old.view parts ≡ Ok i) where
      number_there : number_at geo old.view path ≡ i
      number_there = ap (λ o. result_unwrap_or (target geo old.view (unwrap_or o [])) 0) is ∙ ap (λ t. result_unwrap_or t 0) e

      there : refusal_of geo old (Open path) ≡ option_or (not_file geo old.view i) (option_or (no_handle old) None)
      unfolding causes open_causes no_handle
      there =
          ap (open_causes geo old.view (no_handle old)) is
          ∙ ap (λ t. option_or (result_err t) (option_or (not_file geo old.view (result_unwrap_or t 0)) (option_or (no_handle old) None))) e

      of_directory : is_directory_at geo old.view i ≡ true → refusal_of geo old (Open path) ≡ Some IsDirectory
      of_directory d = there ∙ ap (λ b. option_or (when b IsDirectory) (option_or (no_handle old) None)) d

      of_file : is_directory_at geo old.view i ≡ false → refusal_of geo old (Open path) ≡ option_or (no_handle old) None
      of_file f = there ∙ ap (λ b. option_or (when b IsDirectory) (option_or (no_handle old) None)) f

-- ---- free handles

not_none : (o : Option ℕ) → IsSome o → is_none o ≡ false
not_none (Some x) some = refl
not_none None some = let wrong : false ≡ true = some in cc

module _ (holdings : Holdings) (old : State) (has : Has holdings old) where
  none_free : NoFreeHandle holdings → no_handle old ≡ Some TooManyOpen
  unfolding no_handle
  none_free none =
      ap (λ b. when (not b) TooManyOpen)
      (any_none 1024 (λ h. is_none (old.opened h)) (λ h low. ap (λ (o : ℕ → Option ℕ). is_none (o h)) has.opened ∙ not_none (opened_by holdings h) (none h low)))

  some_free : (h : ℕ) → IsFreeHandle holdings h → no_handle old ≡ None
  unfolding no_handle
  some_free h free =
      ap (λ b. when (not b) TooManyOpen)
      (any_here 1024 (λ g. is_none (old.opened g)) h free.within (ap (λ (o : ℕ → Option ℕ). is_none (o h)) has.opened ∙ ap (λ (o : Option ℕ). is_none o) free.free))

-- ---- what is said where this is kept

pub badly : (kept : Kept) (holdings : Holdings) (path : List ℕ) → parts_of path ≡ None → IsFirstCauseWith kept holdings (Open path) BadName
badly kept holdings path is old shows has = inl (bad kept.geometry old path is)

module _ (frozen kept : Kept) (same : frozen ≡ kept) (keeps : KeepsMetadata kept) (holdings : Holdings) (path : List ℕ) (parts : List (List ℕ)) (is : parts_of path ≡ Some parts)
    (found : Result ℕ Refusal) (leads : (view : View) → IsShownBy frozen view → found ≡ target frozen.geometry view parts) where
  leads_to : (old : State) → Shows kept old.view → found ≡ target kept.geometry old.view parts
  leads_to old shows =
      subst (λ (k : Kept). (view : View) → IsShownBy k view → found ≡ target k.geometry view parts) same leads old.view (shows_metadata kept old.view keeps shows)

  same_kind : (old : State) → Shows kept old.view → (i : ℕ) → is_directory_at frozen.geometry (frozen_view frozen) i ≡ is_directory_at kept.geometry old.view i
  same_kind old shows i =
      ap (λ (k : Kept). is_directory_at k.geometry (frozen_view k) i) same ∙ ap (λ r. (is_number kept.geometry i && is_sound kept.geometry r) && is_directory r) (shows.inode i)

  pub to_nowhere : (r : Refusal) → found ≡ Err r → IsFirstCauseWith kept holdings (Open path) r
  to_nowhere r e old shows has = inl (nowhere kept.geometry old path parts is r (sym (leads_to old shows) ∙ e))

  module _ (i : ℕ) (e : found ≡ Ok i) where
    leads_there : (old : State) → Shows kept old.view → target kept.geometry old.view parts ≡ Ok i
    leads_there old shows = sym (leads_to old shows) ∙ e

    pub to_directory : is_directory_at frozen.geometry (frozen_view frozen) i ≡ true → IsFirstCauseWith kept holdings (Open path) IsDirectory
    to_directory d old shows has = inl (of_directory kept.geometry old path parts is i (leads_there old shows) (sym (same_kind old shows i) ∙ d))

    module _ (file : is_directory_at frozen.geometry (frozen_view frozen) i ≡ false) where
      stays : (old : State) → Shows kept old.view → refusal_of kept.geometry old (Open path) ≡ option_or (no_handle old) None
      stays old shows = of_file kept.geometry old path parts is i (leads_there old shows) (sym (same_kind old shows i) ∙ file)

      pub to_many : NoFreeHandle holdings → IsFirstCauseWith kept holdings (Open path) TooManyOpen
      to_many none old shows has = inl (stays old shows ∙ ap (λ c. option_or c None) (none_free holdings old has none))

      pub to_file : (h : ℕ) → IsFreeHandle holdings h → (after : Holdings) → IsOpened holdings h i after → IsQuietlyDone kept holdings [] (Open path) (Number h) after
      to_file h free after opened = record {
        quiet = refl;
        snapshots = opened.snapshots;
        held = opened.held;
        accepted = λ old shows has. (stays old shows ∙ ap (λ c. option_or c None) (some_free holdings old has h free), tt);
        effect = λ old shows has sees. record {
          handle = free.within;
          free = ap (λ (o : ℕ → Option ℕ). o h) has.opened ∙ free.free;
          whole = ap₂ (λ (o : ℕ → Option ℕ) (d : ℕ → Bool). record old { opened = o; held = d; plan = plan_by after })
              (opened.opened ∙ ap₂ (λ (o : ℕ → Option ℕ) n. put_at o h (Some n)) (sym has.opened) (sym (number_there kept.geometry old path parts is i (leads_there old shows))))
              (fun_ext (λ a. ap (λ (l : List Bool). slice_index_or l a false) opened.held) ∙ sym has.held)
              ∙ ap (λ (p : Option Plan). record old { opened = put_at old.opened h (Some (number_at kept.geometry old.view path)); held = old.held; plan = p }) (ap (λ (r : Option Repairs). option_map plan_of r) opened.repairs ∙ sym has.plan);
        };
      }
