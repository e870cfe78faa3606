-- A walk, part after part.
use Rattle.std.proofs.Common.{◌≡◌, ℕ, Bool, true, false, cond, List, [], ◌∷◌, refl, ap, ◌∙◌, Option, Some, None, Result, Ok, Err}
use Rattle.std.specs.Option.{option_map}
use Rattle.model.specs.Slots.{slot, number_in}
use Rattle.model.specs.Layout.{Geometry, root}
use Rattle.model.specs.View.{View}
use Rattle.model.specs.Uses.{is_directory_at}
use Rattle.layout.specs.declared.refusal.Refusal.{Refusal}
use Rattle.layout.specs.declared.refusal.Refusal.TheVariants.{IsRoot, NotFound, NotDirectory}
use Rattle.machine.specs.Paths.{slot_of, lookup, walk, target, last_part}
use Rattle.live_paths.specs.Walks.{last_of, named_of, next_of}

module _ (geo : Geometry) (view : View) where
  abbrev named_by : Option ℕ → Result ℕ Refusal
  named_by o = elim o [ None ↦ Err NotFound | Some i ↦ Ok i ]

  abbrev on : List (List ℕ) → Option ℕ → Result ℕ Refusal
  on parts o = elim o [ None ↦ Err NotFound | Some i ↦ walk geo view i parts ]

  abbrev found : ℕ → Result ℕ Refusal
  found i = Ok i

  same_number : (j i : ℕ) → found j ≡ found i → j ≡ i
  same_number j i e = cc

  goes_on : (b : Bool) (o : Option ℕ) (parts : List (List ℕ)) (i : ℕ) → cond b (named_by o) (Err NotDirectory) ≡ Ok i → cond b (on parts o) (Err NotDirectory) ≡ walk geo view i parts
  goes_on true (Some j) parts i e = ap (λ n. walk geo view n parts) (same_number j i e)
  goes_on true None parts i e = cc
  goes_on false o parts i e = cc

  ends : (b : Bool) (o : Option ℕ) (parts : List (List ℕ)) (r : Refusal) → cond b (named_by o) (Err NotDirectory) ≡ Err r → cond b (on parts o) (Err NotDirectory) ≡ Err r
  ends true (Some j) parts r e = cc
  ends true None parts r e = e
  ends false o parts r e = e

  -- where a part leads on, the walk goes on there
  pub walk_next : (d i : ℕ) (part : List ℕ) (parts : List (List ℕ)) (next : List ℕ) (others : List (List ℕ)) → parts ≡ next ∷ others
      → next_of geo view d part ≡ Ok i → walk geo view d (part ∷ parts) ≡ walk geo view i parts
  unfolding walk
  walk_next d i part [] next others e h = cc
  walk_next d i part (x ∷ xs) next others e h = goes_on (is_directory_at geo view d) (lookup geo view d part) (x ∷ xs) i h

  -- and where it does not, the walk ends
  pub walk_ends : (d : ℕ) (r : Refusal) (part : List ℕ) (parts : List (List ℕ)) (next : List ℕ) (others : List (List ℕ)) → parts ≡ next ∷ others
      → next_of geo view d part ≡ Err r → walk geo view d (part ∷ parts) ≡ Err r
  unfolding walk
  walk_ends d r part [] next others e h = cc
  walk_ends d r part (x ∷ xs) next others e h = ends (is_directory_at geo view d) (lookup geo view d part) (x ∷ xs) r h

  -- the last part needs a directory
  pub walk_last : (d : ℕ) (part : List ℕ) → walk geo view d (part ∷ []) ≡ last_of geo view d
  unfolding walk
  walk_last d part = refl

  -- ---- what a path leads to
  abbrev after : List (List ℕ) → Result ℕ Refusal → Result ℕ Refusal
  after parts r = elim r [ Err x ↦ Err x | Ok d ↦ named_of geo view d (last_part parts) ]

  target_here : (d : ℕ) (part : List ℕ) (parts : List (List ℕ)) → walk geo view root (part ∷ parts) ≡ Ok d → target geo view (part ∷ parts) ≡ named_of geo view d (last_part (part ∷ parts))
  unfolding target
  target_here d part parts e = ap (after (part ∷ parts)) e

  target_ends : (r : Refusal) (part : List ℕ) (parts : List (List ℕ)) → walk geo view root (part ∷ parts) ≡ Err r → target geo view (part ∷ parts) ≡ Err r
  unfolding target
  target_ends r part parts e = ap (after (part ∷ parts)) e

  -- what is found stands for its number
  pub named_some : (d s n : ℕ) (name : List ℕ) → slot_of geo view d name ≡ Some s → number_in (slot geo view d s) ≡ n → named_of geo view d name ≡ Ok n
  unfolding lookup
  named_some d s n name e h = ap (λ o. named_by (option_map (λ t. number_in (slot geo view d t)) o)) e ∙ ap found h

  pub named_none : (d : ℕ) (name : List ℕ) → slot_of geo view d name ≡ None → named_of geo view d name ≡ Err NotFound
  unfolding lookup
  named_none d name e = ap (λ o. named_by (option_map (λ t. number_in (slot geo view d t)) o)) e

  pub target_root : (parts : List (List ℕ)) → parts ≡ [] → target geo view parts ≡ Ok root
  unfolding target
  target_root [] e = refl
  target_root (part ∷ parts) e = cc

  pub walk_root : (parts : List (List ℕ)) (d : ℕ) → parts ≡ [] → walk geo view d parts ≡ Err IsRoot
  unfolding walk
  walk_root [] d e = refl
  walk_root (part ∷ parts) d e = cc

  pub target_found : (parts : List (List ℕ)) (d : ℕ) → (parts ≡ [] → ⊥) → walk geo view root parts ≡ Ok d → target geo view parts ≡ named_of geo view d (last_part parts)
  target_found [] d some e = absurd (some refl)
  target_found (part ∷ parts) d some e = target_here d part parts e

  pub target_refused : (parts : List (List ℕ)) (r : Refusal) → (parts ≡ [] → ⊥) → walk geo view root parts ≡ Err r → target geo view parts ≡ Err r
  target_refused [] r some e = absurd (some refl)
  target_refused (part ∷ parts) r some e = target_ends r part parts e
