-- What the kept blocks hold leads where each view leads of which they hold the metadata.
use Rattle.std.proofs.Common.{◌≡◌, ℕ, zero, suc, cond, leb, List, [], ◌∷◌, ◌++◌, refl, ap, ap₂, ◌∙◌, Option, Some, None, Result, Ok, Err}
use Rattle.std.specs.Option.{option_map}
use Rattle.model.specs.View.{View}
use Rattle.model.specs.Uses.{is_directory_at}
use Rattle.model.specs.Slots.{slot, number_in}
use Rattle.model.specs.Reach.{slot_count}
use Rattle.model.proofs.Same.{same_facts}
use Rattle.layout.specs.declared.refusal.Refusal.{Refusal}
use Rattle.layout.specs.declared.refusal.Refusal.TheVariants.{NotFound, NotDirectory}
use Rattle.frozen.specs.Kept.{Kept, frozen_view}
use Rattle.machine.specs.Effects.{names_below, named}
use Rattle.machine.specs.Paths.{has_name, slot_of, lookup, walk}
use Rattle.live_paths.specs.Shown.{IsShownBy}
use Rattle.live_paths.proofs.Firsts.{first_same}

pub self_shown : (kept : Kept) → IsShownBy kept (frozen_view kept)
self_shown kept = record {
  inode = λ i n. refl;
  number_marked = λ i n. refl;
  block_marked = λ a n. refl;
  tables = λ i m a t c. refl;
  directory_blocks = λ d k a t c. refl;
}

module _ (kept : Kept) (view : View) (shown : IsShownBy kept view) where
  pub shown_slot : (d s : ℕ) → slot kept.geometry (frozen_view kept) d s ≡ slot kept.geometry view d s
  shown_slot d s = (same_facts kept.geometry (frozen_view kept) view shown).slots d s

  pub shown_directory : (d : ℕ) → is_directory_at kept.geometry (frozen_view kept) d ≡ is_directory_at kept.geometry view d
  shown_directory d = (same_facts kept.geometry (frozen_view kept) view shown).directory_at d

  shown_slot_of : (d : ℕ) (name : List ℕ) → slot_of kept.geometry (frozen_view kept) d name ≡ slot_of kept.geometry view d name
  unfolding slot_of
  shown_slot_of d name =
      first_same (slot_count kept.geometry) (λ s. has_name (slot kept.geometry (frozen_view kept) d s) name) (λ s. has_name (slot kept.geometry view d s) name)
      (λ s. ap (λ x. has_name x name) (shown_slot d s))

  number_at : (d : ℕ) (o : Option ℕ) → option_map (λ s. number_in (slot kept.geometry (frozen_view kept) d s)) o ≡ option_map (λ s. number_in (slot kept.geometry view d s)) o
  number_at d None = refl
  number_at d (Some s) = ap (λ x. Some (number_in x)) (shown_slot d s)

  pub shown_lookup : (d : ℕ) (name : List ℕ) → lookup kept.geometry (frozen_view kept) d name ≡ lookup kept.geometry view d name
  unfolding lookup
  shown_lookup d name =
      number_at d (slot_of kept.geometry (frozen_view kept) d name)
      ∙ ap (option_map (λ s. number_in (slot kept.geometry view d s))) (shown_slot_of d name)

  abbrev on : View → List (List ℕ) → Option ℕ → Result ℕ Refusal
  on v parts o = elim o [ None ↦ Err NotFound | Some i ↦ walk kept.geometry v i parts ]

  same_on : (parts : List (List ℕ)) → ((i : ℕ) → walk kept.geometry (frozen_view kept) i parts ≡ walk kept.geometry view i parts) → (o : Option ℕ) → on (frozen_view kept) parts o ≡ on view parts o
  same_on parts h None = refl
  same_on parts h (Some i) = h i

  pub shown_walk : (parts : List (List ℕ)) (d : ℕ) → walk kept.geometry (frozen_view kept) d parts ≡ walk kept.geometry view d parts
  unfolding walk
  shown_walk [] d = refl
  shown_walk (part ∷ []) d = ap (λ b. cond b (Ok d) (Err NotDirectory)) (shown_directory d)
  shown_walk (part ∷ next ∷ parts) d =
      ap₂ (λ b o. cond b (on (frozen_view kept) (next ∷ parts) o) (Err NotDirectory)) (shown_directory d) (shown_lookup d part)
      ∙ ap (λ r. cond (is_directory_at kept.geometry view d) r (Err NotDirectory)) (same_on (next ∷ parts) (shown_walk (next ∷ parts)) (lookup kept.geometry view d part))

  pub shown_names : (d n : ℕ) → names_below kept.geometry (frozen_view kept) d n ≡ names_below kept.geometry view d n
  unfolding names_below
  shown_names d zero = refl
  shown_names d (suc s) = ap₂ (λ xs x. xs ++ cond (leb 2 s) (named x) []) (shown_names d s) (shown_slot d s)
