-- What a path leads to on an image as it is mounted, and which refusal it gets.
use Rattle.std.proofs.Common.{◌≡◌, ℕ, Bool, cond, not, true, false, List, [], ◌∷◌, Option, Some, None, Result, Ok, Err, IfErr, inl, inr, refl, sym, ap, ◌∙◌, arith}
use Rattle.std.specs.Prelude.{is_none, unwrap_or}
use Rattle.std.specs.Option.{option_or}
use Rattle.std.specs.Result.{result_err, result_unwrap_or}
use Rattle.layout.specs.declared.refusal.Refusal.{Refusal}
use Rattle.layout.specs.declared.refusal.Refusal.TheVariants.{BadName, Device, IsDirectory, NotDirectory, NotFound, TooManyOpen}
use Rattle.frozen.specs.Kept.{IsKeptOf, Kept, frozen_view}
use Rattle.live_paths.specs.Shown.{IsShownBy}
use Rattle.model.specs.Image.{image_view}
use Rattle.model.specs.Layout.{Geometry, root}
use Rattle.model.specs.Metadata.{SameMetadata}
use Rattle.model.specs.Uses.{is_directory_at}
use Rattle.model.specs.View.{View}
use Rattle.machine.specs.Below.{any_below, first_of, when}
use Rattle.machine.specs.Causes.{causes, not_file, refusal_of}
use Rattle.machine.specs.Command.{ListNames, Open, Stat}
use Rattle.machine.specs.Paths.{last_part, lookup, number_at, parts_of, target, walk}
use Rattle.machine.specs.State.{handle_count, mounted}
use Rattle.machine.proofs.Decisions.{any_here}
use Rattle.reading.specs.Replies.{Leads, MayReply, WhyNot, NoPath, Nowhere}

-- ---- refusals in order

list_causes : Geometry → View → Option (List (List ℕ)) → Option Refusal
list_causes geo view o =
    first_of (when (is_none o) BadName ∷ result_err (target geo view (unwrap_or o [])) ∷ when (not (is_directory_at geo view (result_unwrap_or (target geo view (unwrap_or o [])) 0))) NotDirectory ∷ [])

stat_causes : Geometry → View → Option (List (List ℕ)) → Option Refusal
stat_causes geo view o = first_of (when (is_none o) BadName ∷ result_err (target geo view (unwrap_or o [])) ∷ [])

no_handle : View → Option Refusal
no_handle view = when (not (any_below handle_count (λ h. is_none ((mounted view).opened h)))) TooManyOpen

open_causes : Geometry → View → Option Refusal → Option (List (List ℕ)) → Option Refusal
open_causes geo view last o =
    first_of (when (is_none o) BadName ∷ result_err (target geo view (unwrap_or o [])) ∷ not_file geo view (result_unwrap_or (target geo view (unwrap_or o [])) 0) ∷ last ∷ [])

module _ (geo : Geometry) (view : View) (path : List ℕ) where
  list_bad : parts_of path ≡ None → refusal_of geo (mounted view) (ListNames path) ≡ Some BadName
  unfolding causes list_causes
  list_bad is = ap (list_causes geo view) is

  stat_bad : parts_of path ≡ None → refusal_of geo (mounted view) (Stat path) ≡ Some BadName
  unfolding causes stat_causes
  stat_bad is = ap (stat_causes geo view) is

  open_bad : parts_of path ≡ None → refusal_of geo (mounted view) (Open path) ≡ Some BadName
  unfolding causes open_causes no_handle
  open_bad is = ap (open_causes geo view (no_handle view)) is

  module _ (parts : List (List ℕ)) (is : parts_of path ≡ Some parts) where
    list_nowhere : (r : Refusal) → target geo view parts ≡ Err r → refusal_of geo (mounted view) (ListNames path) ≡ Some r
    unfolding causes list_causes
    list_nowhere r e =
        ap (list_causes geo view) is ∙ ap (λ t. option_or (result_err t) (option_or (when (not (is_directory_at geo view (result_unwrap_or t 0))) NotDirectory) None)) e

    stat_nowhere : (r : Refusal) → target geo view parts ≡ Err r → refusal_of geo (mounted view) (Stat path) ≡ Some r
    unfolding causes stat_causes
    stat_nowhere r e = ap (stat_causes geo view) is ∙ ap (λ t. option_or (result_err t) None) e

    open_nowhere : (r : Refusal) → target geo view parts ≡ Err r → refusal_of geo (mounted view) (Open path) ≡ Some r
    unfolding causes open_causes no_handle
    open_nowhere r e =
        ap (open_causes geo view (no_handle view)) is
        ∙ ap (λ t. option_or (result_err t) (option_or (not_file geo view (result_unwrap_or t 0)) (option_or (no_handle view) None))) e

    module _ (i : ℕ) (e : target geo view parts ≡ Ok i) where
      number_there : number_at geo view path ≡ i
      number_there = ap (λ o. result_unwrap_or (target geo view (unwrap_or o [])) 0) is ∙ ap (λ t. result_unwrap_or t 0) e

      stat_there : refusal_of geo (mounted view) (Stat path) ≡ None
      unfolding causes stat_causes
      stat_there = ap (stat_causes geo view) is ∙ ap (λ t. option_or (result_err t) None) e

      list_there : refusal_of geo (mounted view) (ListNames path) ≡ option_or (when (not (is_directory_at geo view i)) NotDirectory) None
      unfolding causes list_causes
      list_there =
          ap (list_causes geo view) is ∙ ap (λ t. option_or (result_err t) (option_or (when (not (is_directory_at geo view (result_unwrap_or t 0))) NotDirectory) None)) e

      open_there : refusal_of geo (mounted view) (Open path) ≡ option_or (not_file geo view i) (option_or (no_handle view) None)
      unfolding causes open_causes no_handle
      open_there =
          ap (open_causes geo view (no_handle view)) is
          ∙ ap (λ t. option_or (result_err t) (option_or (not_file geo view (result_unwrap_or t 0)) (option_or (no_handle view) None))) e

some_handle : (view : View) → no_handle view ≡ None
unfolding no_handle
some_handle view = ap (λ b. when (not b) TooManyOpen) (any_here 1024 (λ h. true) 0 (omega arith) refl)

-- ---- no path is refused with a fault of the device

abbrev pub is_device : Refusal → Bool
is_device Device = true
is_device _ = false

abbrev pub fails : Result ℕ Refusal → Bool
fails (Ok i) = false
fails (Err r) = is_device r

module _ (geo : Geometry) (view : View) where
  abbrev on : List (List ℕ) → Option ℕ → Result ℕ Refusal
  on ps o = elim o [ None ↦ Err NotFound | Some i ↦ walk geo view i ps ]

  walk_fails : (ps : List (List ℕ)) (d : ℕ) → fails (walk geo view d ps) ≡ false
  unfolding walk
  walk_fails [] d = refl
  walk_fails (part ∷ []) d = by (is_directory_at geo view d)
    where
      by : (b : Bool) → fails (cond b (Ok d) (Err NotDirectory)) ≡ false
      by true = refl
      by false = refl
  walk_fails (part ∷ next ∷ ps) d = by (λ i. walk_fails (next ∷ ps) i) (is_directory_at geo view d) (lookup geo view d part)
    where
      by : ((i : ℕ) → fails (walk geo view i (next ∷ ps)) ≡ false) → (b : Bool) (o : Option ℕ) → fails (cond b (on (next ∷ ps) o) (Err NotDirectory)) ≡ false
      by rest true None = refl
      by rest true (Some i) = rest i
      by rest false None = refl
      by rest false (Some i) = refl

  abbrev at_end : Option ℕ → Result ℕ Refusal
  at_end o = elim o [ None ↦ Err NotFound | Some i ↦ Ok i ]

  abbrev after_walk : List (List ℕ) → Result ℕ Refusal → Result ℕ Refusal
  after_walk ps r = elim r [ Err x ↦ Err x | Ok d ↦ elim (lookup geo view d (last_part ps)) [ None ↦ Err NotFound | Some i ↦ Ok i ] ]

  target_fails : (ps : List (List ℕ)) → fails (target geo view ps) ≡ false
  unfolding target
  target_fails [] = refl
  target_fails (part ∷ ps) = by (walk geo view root (part ∷ ps)) (walk_fails (part ∷ ps) root)
    where
      last : (o : Option ℕ) → fails (at_end o) ≡ false
      last None = refl
      last (Some i) = refl

      by : (r : Result ℕ Refusal) → fails r ≡ false → fails (after_walk (part ∷ ps) r) ≡ false
      by (Err x) e = e
      by (Ok d) e = last (lookup geo view d (last_part (part ∷ ps)))

itself : (geo : Geometry) (view : View) → SameMetadata geo view view
itself geo view = record {
  inode = λ i n. refl;
  number_marked = λ i n. refl;
  block_marked = λ a n. refl;
  tables = λ i m a t c. refl;
  directory_blocks = λ d k a t c. refl;
}

pub not_device : (kept : Kept) (parts : List (List ℕ)) (found : Result ℕ Refusal) → ((view : View) → IsShownBy kept view → found ≡ target kept.geometry view parts) → found ≡ Err Device → ⊥
not_device kept parts found leads e =
    let there : target kept.geometry (frozen_view kept) parts ≡ Err Device = sym (leads (frozen_view kept) (itself kept.geometry (frozen_view kept))) ∙ e in
    let bad : false ≡ true = sym (target_fails kept.geometry (frozen_view kept) parts) ∙ ap fails there in cc

err_of : {T : Type 0} → Result T Refusal → Refusal
err_of (Ok t) = BadName
err_of (Err r) = r

-- what is refused so is refused so, whatever else it might have given
pub as_other : {T U : Type 0} (x : Result T Refusal) (y : Result U Refusal) (r s : Refusal) → x ≡ Err r → x ≡ Err s → y ≡ Err r → y ≡ Err s
unfolding err_of
as_other x y r s is e there = there ∙ ap (λ q. Err q) (ap err_of (sym is ∙ e))

pub other_refusal : (bad_name : Result ℕ Refusal) → bad_name ≡ Err BadName → bad_name ≡ Err Device → ⊥
other_refusal bad_name is e = let bad : false ≡ true = ap fails (sym is ∙ e) in cc

-- ---- in the words of the contracts

-- a path that leads nowhere, on each image of which this is kept
pub why_nowhere : (kept : Kept) (path : List ℕ) (parts : List (List ℕ)) → parts_of path ≡ Some parts → (found : Result ℕ Refusal) → ((view : View) → IsShownBy kept view → found ≡ target kept.geometry view parts)
    → IfErr found (λ r. (image : List (List ℕ)) → IsKeptOf kept image → WhyNot kept.geometry (image_view kept.geometry image) path r)
why_nowhere kept path parts is (Ok i) leads = tt
why_nowhere kept path parts is (Err r) leads = λ image of. Nowhere parts is (sym (leads (image_view kept.geometry image) of.metadata))

module _ (geo : Geometry) (view : View) (path : List ℕ) where
  pub stat_refused : (r : Refusal) → WhyNot geo view path r → MayReply geo view (Stat path) (Err r)
  stat_refused r (NoPath is e) = (inr (inr (inl (stat_bad geo view path is ∙ ap Some (sym e)))), refl)
  stat_refused r (Nowhere parts is e) = (inr (inr (inl (stat_nowhere geo view path parts is r e))), refl)

  pub list_refused : (r : Refusal) → WhyNot geo view path r → MayReply geo view (ListNames path) (Err r)
  list_refused r (NoPath is e) = (inr (inr (inl (list_bad geo view path is ∙ ap Some (sym e)))), refl)
  list_refused r (Nowhere parts is e) = (inr (inr (inl (list_nowhere geo view path parts is r e))), refl)

  pub open_refused : (r : Refusal) → WhyNot geo view path r → MayReply geo view (Open path) (Err r)
  open_refused r (NoPath is e) = (inr (inr (inl (open_bad geo view path is ∙ ap Some (sym e)))), refl)
  open_refused r (Nowhere parts is e) = (inr (inr (inl (open_nowhere geo view path parts is r e))), refl)

  module _ (i : ℕ) (leads : Leads geo view path i) where
    pub number_of : number_at geo view path ≡ i
    number_of = number_there geo view path leads.parts leads.is_path i leads.leads

    pub stat_accepted : refusal_of geo (mounted view) (Stat path) ≡ None
    stat_accepted = stat_there geo view path leads.parts leads.is_path i leads.leads

    pub list_of_file : is_directory_at geo view i ≡ false → MayReply geo view (ListNames path) (Err NotDirectory)
    list_of_file f = (inr (inr (inl (list_there geo view path leads.parts leads.is_path i leads.leads ∙ ap (λ b. option_or (when (not b) NotDirectory) None) f))), refl)

    pub list_accepted : is_directory_at geo view i ≡ true → refusal_of geo (mounted view) (ListNames path) ≡ None
    list_accepted t = list_there geo view path leads.parts leads.is_path i leads.leads ∙ ap (λ b. option_or (when (not b) NotDirectory) None) t

    pub open_of_directory : is_directory_at geo view i ≡ true → MayReply geo view (Open path) (Err IsDirectory)
    open_of_directory t =
        (inr (inr (inl (open_there geo view path leads.parts leads.is_path i leads.leads ∙ ap (λ b. option_or (when b IsDirectory) (option_or (no_handle view) None)) t))), refl)

    pub open_accepted : is_directory_at geo view i ≡ false → refusal_of geo (mounted view) (Open path) ≡ None
    open_accepted f =
        open_there geo view path leads.parts leads.is_path i leads.leads
        ∙ ap (λ b. option_or (when b IsDirectory) (option_or (no_handle view) None)) f ∙ ap (λ o. option_or o None) (some_handle view)
