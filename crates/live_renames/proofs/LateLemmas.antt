-- The causes that refuse a file a name in another directory.
use Rattle.std.proofs.Common.{◌≡◌, ◌<◌, ◌≤◌, ◌⊎◌, ℕ, Bool, true, false, leb, ltb, List, [], ◌∷◌, inl, inr, sym, ap, ap₂, ◌∙◌, arith, subst, Option, Some, None, Ok, IsTrue, IsFalse}
use Rattle.std.proofs.lemmas.Bool.{le-leb}
use Rattle.std.proofs.lemmas.Bool.Decides.{nat_tests}
use Rattle.std.specs.Prelude.{is_none}
use Rattle.std.specs.Result.{result_err}
use Rattle.model.specs.Layout.{Geometry, is_number, root}
use Rattle.model.specs.Slots.{number_in, slot}
use Rattle.machine.specs.Paths.{last_part, slot_of, target, walk}
use Rattle.live_paths.specs.Walks.{named_of}
use Rattle.live_paths.proofs.WalkLemmas.{named_none, named_some, target_found}
use Rattle.live_renames.proofs.CauseLemmas.{walked_parts}
use Rattle.model.specs.View.{Inode, View}
use Rattle.frozen.specs.Kept.{Kept, frozen_view}
use Rattle.live_paths.specs.Shown.{IsShownBy}
use Rattle.live_paths.proofs.ShownLemmas.{shown_directory, shown_walk}
use Rattle.model.specs.Uses.{is_directory_at}
use Rattle.layout.specs.declared.refusal.Refusal.{Refusal}
use Rattle.layout.specs.declared.refusal.Refusal.TheVariants.{Exists, IsDirectory, NoBlock, TooBig, TooManyLinks}
use Rattle.machine.specs.Below.{first_of, when}
use Rattle.machine.specs.Causes.{full, too_few, too_many_links}
use Rattle.machine.specs.Room.{blocks_to_enter, is_full, unmarked_blocks}
use Rattle.live_places.specs.Chosen.{blocks_needed}
use Rattle.live_renames.specs.Refused.{late, taken}

module _ (geo : Geometry) (v : View) (qs : List (List ℕ)) (i d : ℕ) where
  abbrev five : Option Refusal → Option Refusal → Option Refusal → Option Refusal → Option Refusal → Option Refusal
  five a b c e f = first_of (a ∷ b ∷ c ∷ e ∷ f ∷ [])

  abbrev fifth : Option Refusal
  fifth = too_few geo v (blocks_to_enter geo v d)

  pub is_a_directory : is_directory_at geo v i ≡ true → first_of (late geo v qs i d true) ≡ Some IsDirectory
  is_a_directory t = ap (λ b. five (when b IsDirectory) (taken geo v qs) (too_many_links v i) (full geo v d) fifth) t

  module _ (file : is_directory_at geo v i ≡ false) where
    file_first : first_of (late geo v qs i d true) ≡ five None (taken geo v qs) (too_many_links v i) (full geo v d) fifth
    file_first = ap (λ b. five (when b IsDirectory) (taken geo v qs) (too_many_links v i) (full geo v d) fifth) file

    pub is_taken : (r : Refusal) → taken geo v qs ≡ Some r → first_of (late geo v qs i d true) ≡ Some r
    is_taken r e = file_first ∙ ap (λ o. five None o (too_many_links v i) (full geo v d) fifth) e

    module _ (free : taken geo v qs ≡ None) where
      free_next : first_of (late geo v qs i d true) ≡ five None None (too_many_links v i) (full geo v d) fifth
      free_next = file_first ∙ ap (λ o. five None o (too_many_links v i) (full geo v d) fifth) free

      pub has_many : 32767 ≤ (v.inode i).links → first_of (late geo v qs i d true) ≡ Some TooManyLinks
      has_many many = free_next ∙ ap (λ b. five None None (when b TooManyLinks) (full geo v d) fifth) (le-leb 32767 (v.inode i).links many)

      module _ (few : (v.inode i).links < 32767) where
        few_next : first_of (late geo v qs i d true) ≡ five None None None (full geo v d) fifth
        few_next =
            let no : leb 32767 (v.inode i).links ≡ false = grind (arith, nat_tests) in
            free_next ∙ ap (λ b. five None None (when b TooManyLinks) (full geo v d) fifth) no

        pub not_chosen : (r : Refusal)
            → ((r ≡ TooBig) × IsTrue (is_full geo v d)) ⊎ ((r ≡ NoBlock) × IsFalse (is_full geo v d) × (unmarked_blocks geo v < blocks_needed geo v d false))
            → first_of (late geo v qs i d true) ≡ Some r
        not_chosen r (inl h) = few_next ∙ ap (λ b. five None None None (when b TooBig) fifth) h.1 ∙ ap Some (sym h.0)
        not_chosen r (inr h) =
            let less : ltb (unmarked_blocks geo v) (blocks_to_enter geo v d) ≡ true = grind (arith, nat_tests, h.2) in
            few_next ∙ ap₂ (λ b c. five None None None (when b TooBig) (when c NoBlock)) h.1 less ∙ ap Some (sym h.0)

        pub none_late : IsFalse (is_full geo v d) → blocks_needed geo v d false ≤ unmarked_blocks geo v → first_of (late geo v qs i d true) ≡ None
        none_late left enough =
            let less : ltb (unmarked_blocks geo v) (blocks_to_enter geo v d) ≡ false = grind (arith, nat_tests, enough) in
            few_next ∙ ap₂ (λ b c. five None None None (when b TooBig) (when c NoBlock)) left less

-- ---- the name in its directory
module _ (geo : Geometry) (v : View) (qs : List (List ℕ)) (d : ℕ) (way : walk geo v root qs ≡ Ok d) where
  named : target geo v qs ≡ named_of geo v d (last_part qs)
  named = target_found geo v qs d (walked_parts geo v qs d way) way

  pub some_taken : (s n : ℕ) (name : List ℕ) → name ≡ last_part qs → slot_of geo v d name ≡ Some s → number_in (slot geo v d s) ≡ n → Some Exists ≡ taken geo v qs
  some_taken s n name is at number =
      sym (ap (λ r. when (is_none (result_err r)) Exists) (named ∙ ap (named_of geo v d) (sym is) ∙ named_some geo v d s n name at number))

  pub none_taken : (name : List ℕ) → name ≡ last_part qs → slot_of geo v d name ≡ None → None ≡ taken geo v qs
  none_taken name is at =
      sym (ap (λ r. when (is_none (result_err r)) Exists) (named ∙ ap (named_of geo v d) (sym is) ∙ named_none geo v d name at))

-- ---- what is found on the kept blocks, in a view that is shown
module _ (held kept : Kept) (same : held ≡ kept) (view : View) (shown : IsShownBy kept view) where
  pub directory_is : (n : ℕ) (r b : Bool) → r ≡ is_directory_at held.geometry (frozen_view held) n → r ≡ b → is_directory_at kept.geometry view n ≡ b
  directory_is n r b e t = sym (shown_directory kept view shown n) ∙ ap (λ (k : Kept). is_directory_at k.geometry (frozen_view k) n) (sym same) ∙ sym e ∙ t

  pub way_there : (qs : List (List ℕ)) (d : ℕ) → walk kept.geometry (frozen_view kept) root qs ≡ Ok d → walk kept.geometry view root qs ≡ Ok d
  way_there qs d way = sym (shown_walk kept view shown qs root) ∙ way

  pub taken_is : (qs : List (List ℕ)) (d : ℕ) (o : Option Refusal) → walk kept.geometry (frozen_view kept) root qs ≡ Ok d
      → ((v : View) → IsShownBy held v → walk held.geometry v root qs ≡ Ok d → o ≡ taken held.geometry v qs) → taken kept.geometry view qs ≡ o
  taken_is qs d o way h =
      sym (subst (λ (k : Kept). (v : View) → IsShownBy k v → walk k.geometry v root qs ≡ Ok d → o ≡ taken k.geometry v qs) same h view shown (way_there qs d way))

  pub links_are : (n : ℕ) (inode : Inode) → IsTrue (is_number kept.geometry n) → inode ≡ (frozen_view held).inode n → inode.links ≡ (view.inode n).links
  links_are n inode number e = ap (λ (x : Inode). x.links) (e ∙ ap (λ (k : Kept). (frozen_view k).inode n) same ∙ shown.inode n number)

-- what holds in each view that the blocks show that are lent holds in each that those show that are kept
pub there : (P : Geometry → View → Type 0) (held kept : Kept) → held ≡ kept → ((v : View) → IsShownBy held v → P held.geometry v) → (v : View) → IsShownBy kept v → P kept.geometry v
there P held kept same h = subst (λ (k : Kept). (v : View) → IsShownBy k v → P k.geometry v) same h
