-- Paths, entries and what is reachable, carried from one version of the layout into another.
use Rattle.std.proofs.Common.{◌≡◌, ◌≤◌, ℕ, zero, suc, Bool, cond, List, [], ◌∷◌, inl, inr, refl, sym, ap, ap₂, ◌∙◌, arith, Option, Result, Some, None, Ok, Err, IsTrue}
use Rattle.model.specs.Layout.{Geometry, root}
use Rattle.model.specs.View.{View}
use Rattle.model.specs.Uses.{is_sound_at, is_directory_at}
use Rattle.model.specs.Slots.{slot, Names}
use Rattle.model.specs.Reach.{Path, IsReachableDirectory, IsReachable, IsEntry, IsReachableSet, HasEntries, HasParent, entries_of}
use Rattle.model.proofs.Same.{reachable_number}
use Rattle.model.proofs.SlotLemmas.{number_low}
use Rattle.layout.specs.declared.refusal.Refusal.{Refusal}
use Rattle.layout.specs.declared.refusal.Refusal.TheVariants.{NotFound, NotDirectory}
use Rattle.machine.specs.Paths.{last_part, lookup, target, walk}
use Rattle.versions.specs.Shown.{of_version}

-- what paths, entries and findings look at, in two versions the same
pub record SameFacts (geo : Geometry) (v w : ℕ) (view : View) : Type 0 where
  pub sound_at : (i : ℕ) → is_sound_at (of_version v geo) view i ≡ is_sound_at (of_version w geo) view i
  pub directory_at : (i : ℕ) → is_directory_at (of_version v geo) view i ≡ is_directory_at (of_version w geo) view i
  pub slots : (d s : ℕ) → slot (of_version v geo) view d s ≡ slot (of_version w geo) view d s
  pub entries : (set : ℕ → Bool) (i : ℕ) → 1 ≤ i → entries_of (of_version v geo) view set i ≡ entries_of (of_version w geo) view set i
  pub lookups : (d : ℕ) (name : List ℕ) → lookup (of_version v geo) view d name ≡ lookup (of_version w geo) view d name

pub other_way : {geo : Geometry} {v w : ℕ} {view : View} → SameFacts geo v w view → SameFacts geo w v view
other_way h = record {
  sound_at = λ i. sym (h.sound_at i);
  directory_at = λ i. sym (h.directory_at i);
  slots = λ d s. sym (h.slots d s);
  entries = λ set i some. sym (h.entries set i some);
  lookups = λ d name. sym (h.lookups d name);
}

module _ (geo : Geometry) (v w : ℕ) (view : View) (h : SameFacts geo v w view) where
  pub names_there : (d s i : ℕ) → Names (of_version v geo) view d s i → Names (of_version w geo) view d s i
  names_there d s i n = (n.0, sym (h.slots d s) ∙ n.1)

  pub directory_there : (d : ℕ) → IsTrue (is_directory_at (of_version v geo) view d) → IsTrue (is_directory_at (of_version w geo) view d)
  directory_there d t = sym (h.directory_at d) ∙ t

  pub sound_there : (i : ℕ) → IsTrue (is_sound_at (of_version v geo) view i) → IsTrue (is_sound_at (of_version w geo) view i)
  sound_there i t = sym (h.sound_at i) ∙ t

  path_there : (n d : ℕ) → Path (of_version v geo) view n d → Path (of_version w geo) view n d
  path_there zero d p = (p.0, directory_there root p.1)
  path_there (suc n) d p = (p.0, p.1, path_there n p.0 p.2, p.3, names_there p.0 p.1 d p.4, directory_there d p.5)

  pub reached_there : (d : ℕ) → IsReachableDirectory (of_version v geo) view d → IsReachableDirectory (of_version w geo) view d
  reached_there d r = (r.0, path_there r.0 d r.1)

  pub entry_there : (d s i : ℕ) → IsEntry (of_version v geo) view d s i → IsEntry (of_version w geo) view d s i
  entry_there d s i e = record { reachable = reached_there d e.reachable; after_dots = e.after_dots; names = names_there d s i e.names }

  pub reachable_there : (i : ℕ) → IsReachable (of_version v geo) view i → IsReachable (of_version w geo) view i
  reachable_there i (inl r) = inl (reached_there i r)
  reachable_there i (inr r) = inr (sound_there i r.0, r.1, r.2, entry_there r.1 r.2 i r.3)

  pub parent_there : (d : ℕ) → HasParent (of_version v geo) view d → HasParent (of_version w geo) view d
  parent_there d (inl p) = inl (p.0, names_there d 1 root p.1)
  parent_there d (inr p) = inr (p.0, p.1, p.2, names_there d 1 p.1 p.3, entry_there p.1 p.2 d p.4)

  -- ---- paths
  -- where the walk goes on, and what stands at its end
  abbrev onward : (ℕ → Result ℕ Refusal) → Option ℕ → Result ℕ Refusal
  onward f found = elim found [ None ↦ Err NotFound | Some i ↦ f i ]

  abbrev at_end : (ℕ → Option ℕ) → Result ℕ Refusal → Result ℕ Refusal
  at_end f r = elim r [ Err e ↦ Err e | Ok d ↦ onward (λ i. Ok i) (f d) ]

  abbrev tested : Bool → Result ℕ Refusal → Result ℕ Refusal
  tested b r = cond b r (Err NotDirectory)

  same_onward : (f g : ℕ → Result ℕ Refusal) (found : Option ℕ) → ((i : ℕ) → f i ≡ g i) → onward f found ≡ onward g found
  same_onward f g None same = refl
  same_onward f g (Some i) same = same i

  same_end : (f g : ℕ → Option ℕ) (r : Result ℕ Refusal) → ((d : ℕ) → f d ≡ g d) → at_end f r ≡ at_end g r
  same_end f g (Err e) same = refl
  same_end f g (Ok d) same = ap (onward (λ i. Ok i)) (same d)

  same_walk : (d : ℕ) (parts : List (List ℕ)) → walk (of_version v geo) view d parts ≡ walk (of_version w geo) view d parts
  unfolding walk
  same_walk d [] = refl
  same_walk d (part ∷ []) = ap (λ b. tested b (Ok d)) (h.directory_at d)
  same_walk d (part ∷ next ∷ parts) =
      let on : ℕ → Result ℕ Refusal = λ i. walk (of_version v geo) view i (next ∷ parts) in
      let other : ℕ → Result ℕ Refusal = λ i. walk (of_version w geo) view i (next ∷ parts) in
      ap₂ (λ b found. tested b (onward on found)) (h.directory_at d) (h.lookups d part)
      ∙ ap (tested (is_directory_at (of_version w geo) view d)) (same_onward on other (lookup (of_version w geo) view d part) (λ i. same_walk i (next ∷ parts)))

  pub same_target : (parts : List (List ℕ)) → target (of_version v geo) view parts ≡ target (of_version w geo) view parts
  unfolding target
  same_target [] = refl
  same_target (part ∷ parts) =
      let last : ℕ → Option ℕ = λ d. lookup (of_version v geo) view d (last_part (part ∷ parts)) in
      let other : ℕ → Option ℕ = λ d. lookup (of_version w geo) view d (last_part (part ∷ parts)) in
      ap (at_end last) (same_walk root (part ∷ parts)) ∙ same_end last other (walk (of_version w geo) view root (part ∷ parts)) (λ d. h.lookups d (last_part (part ∷ parts)))

set_there : (geo : Geometry) (v w : ℕ) (view : View) (h : SameFacts geo v w view) (set : ℕ → Bool) → IsReachableSet (of_version v geo) view set → IsReachableSet (of_version w geo) view set
set_there geo v w view h set is d = ((λ t. reached_there geo v w view h d ((is d).0 t)), (λ r. (is d).1 (reached_there geo w v view (other_way h) d r)))

-- a reachable inode has as many entries
pub has_entries_there : (geo : Geometry) (v w : ℕ) (view : View) (h : SameFacts geo v w view) (i n : ℕ) → IsReachable (of_version v geo) view i → HasEntries (of_version v geo) view i n → HasEntries (of_version w geo) view i n
has_entries_there geo v w view h i n r e =
    let low = number_low (of_version v geo) i (reachable_number (of_version v geo) view i r) in
    (e.0, set_there geo v w view h e.0 e.1, e.2 ∙ h.entries e.0 i (omega (arith, low)))
