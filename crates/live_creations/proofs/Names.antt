-- A new name in a directory, and why there is none.
use Rattle.std.proofs.Common.{◌≡◌, ◌≤◌, ℕ, not, ◌&&◌, ltb, leb, List, [], ◌∷◌, length, inl, inr, refl, sym, ap, ◌∙◌, subst, IsTrue, Option, Some, None, Result, Ok, Err}
use Rattle.std.specs.Prelude.{is_none}
use Rattle.std.specs.Option.{option_or}
use Rattle.std.specs.List.{list_all}
use Rattle.std.specs.Result.{result_err}
use Rattle.std.proofs.lemmas.Bool.{and_parts, leb-true}
use Rattle.model.specs.Layout.{Geometry, root}
use Rattle.model.specs.View.{Inode, View}
use Rattle.model.specs.Uses.{is_directory_at}
use Rattle.model.specs.Slots.{number_in, slot, is_name, is_name_byte, is_dot, is_dot_dot}
use Rattle.model.proofs.SlotLemmas.{chosen}
use Rattle.layout.specs.declared.refusal.Refusal.{Refusal}
use Rattle.layout.specs.declared.refusal.Refusal.TheVariants.{Exists, IsRoot, NotDirectory, NotFound}
use Rattle.machine.specs.Below.{first_of, when}
use Rattle.machine.specs.Paths.{is_part, last_part, lookup, slot_of, walk}
use Rattle.frozen.specs.Kept.{Kept, frozen_view}
use Rattle.metadata.specs.Shown.{Shows}
use Rattle.live_paths.specs.Shown.{IsShownBy}
use Rattle.live_plans.proofs.FoundLemmas.{target_found, target_missing}
use Rattle.live_creations.specs.Named.{IsNewIn, is_there, naming}

not_ok : {P : Type 0} (r : Refusal) (x : ℕ) → Err r ≡ Ok x → P
not_ok r x e = absurd cc

abbrev found : ℕ → Result ℕ Refusal
found x = Ok x

same_found : (x y : ℕ) → found x ≡ found y → x ≡ y
same_found x y e = cc

module _ (geo : Geometry) (v : View) where
  pub walked_parts : (ps : List (List ℕ)) (d : ℕ) → walk geo v root ps ≡ Ok d → ps ≡ [] → ⊥
  unfolding walk
  walked_parts [] d e none = not_ok IsRoot d e
  walked_parts (part ∷ ps) d e none = cc

  abbrev on : List (List ℕ) → Option ℕ → Result ℕ Refusal
  on parts o = elim o [ None ↦ Err NotFound | Some i ↦ walk geo v i parts ]

  goes_on : (parts : List (List ℕ)) (e : ℕ) (o : Option ℕ) → on parts o ≡ Ok e → (i : ℕ) × (o ≡ Some i) × (walk geo v i parts ≡ Ok e)
  goes_on parts e None way = not_ok NotFound e way
  goes_on parts e (Some i) way = (i, refl, way)

  -- a walk ends at a directory
  pub walk_into : (parts : List (List ℕ)) (d e : ℕ) → walk geo v d parts ≡ Ok e → IsTrue (is_directory_at geo v e)
  unfolding walk
  walk_into [] d e way = not_ok IsRoot e way
  walk_into (part ∷ []) d e way = elim (chosen (is_directory_at geo v d) (Ok d) (Err NotDirectory) (Ok e) way) [
    | inl h ↦ subst (λ i. IsTrue (is_directory_at geo v i)) (same_found d e h.1) h.0
    | inr h ↦ not_ok NotDirectory e h.1
  ]
  walk_into (part ∷ next ∷ parts) d e way = elim (chosen (is_directory_at geo v d) (on (next ∷ parts) (lookup geo v d part)) (Err NotDirectory) (Ok e) way) [
    | inl h ↦ let more = goes_on (next ∷ parts) e (lookup geo v d part) h.1 in walk_into (next ∷ parts) more.0 e more.2
    | inr h ↦ not_ok NotDirectory e h.1
  ]

  module _ (ps : List (List ℕ)) (d : ℕ) (way : walk geo v root ps ≡ Ok d) (name : List ℕ) (is : name ≡ last_part ps) where
    pub name_taken : (s n : ℕ) → slot_of geo v d name ≡ Some s → number_in (slot geo v d s) ≡ n → first_of (naming geo v ps) ≡ Some Exists
    name_taken s n at number =
        ap (λ r. option_or (result_err r) (option_or (is_there geo v ps) None)) way
        ∙ ap (λ r. option_or (when (is_none (result_err r)) Exists) None)
        (target_found geo v ps (walked_parts ps d way) d s n way (ap (slot_of geo v d) (sym is) ∙ at) number)

    pub name_new : slot_of geo v d name ≡ None → IsNewIn geo v ps d
    name_new none = record {
      directory = way;
      new = ap (λ r. when (is_none (result_err r)) Exists) (target_missing geo v ps (walked_parts ps d way) d way (ap (slot_of geo v d) (sym is) ∙ none));
    }

-- a part of a path is short
pub part_short : (name : List ℕ) → IsTrue (is_part name) → length name ≤ 56
part_short name part =
    let named = (and_parts (is_name name && not (is_dot name)) (not (is_dot_dot name)) part).0 in
    let good = (and_parts (is_name name) (not (is_dot name)) named).0 in
    let sized = (and_parts (ltb 0 (length name) && leb (length name) 56) (list_all is_name_byte name) good).0 in
    leb-true (length name) 56 (and_parts (ltb 0 (length name)) (leb (length name) 56) sized).1

-- what holds in each view that the blocks show that are lent holds in each that those show that are kept
pub there : (P : Geometry → View → Type 0) (held kept : Kept) → held ≡ kept → ((v : View) → IsShownBy held v → P held.geometry v) → (v : View) → IsShownBy kept v → P kept.geometry v
there P held kept same h = subst (λ (k : Kept). (v : View) → IsShownBy k v → P k.geometry v) same h

-- the links that are kept are those that users see
pub links_there : (held kept : Kept) → held ≡ kept → (view : View) → Shows kept view → (n : ℕ) (inode : Inode) → inode ≡ (frozen_view held).inode n → inode.links ≡ (view.inode n).links
links_there held kept same view shows n inode is = ap (λ (x : Inode). x.links) (is ∙ ap (λ (k : Kept). (frozen_view k).inode n) same ∙ shows.inode n)
