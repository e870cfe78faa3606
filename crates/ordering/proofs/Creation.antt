-- A file is created by three updates, each of its kind.
use Rattle.std.proofs.Common.{◌≡◌, ℕ, ◌<◌, ◌≤◌, ◌/◌, Bool, true, false, cond, eqb, List, [], ◌∷◌, inl, inr, refl, sym, ap, ◌∙◌, subst, IsTrue, arith, Contains, eqb-true}
use Rattle.std.proofs.lemmas.Bool.{both_ways, cases_eq, cases_Bool, and_from, cond-false}
use Rattle.model.specs.Layout.{Geometry, is_number, inode_count}
use Rattle.model.specs.View.{View, Inode, new_file}
use Rattle.model.specs.Cells.{SetInode, SetNumber, SetBytes, updated, put_at}
use Rattle.model.specs.Shape.{first_block}
use Rattle.model.specs.Uses.{use_at, has_position, is_directory_at, is_sound, blocks_of}
use Rattle.model.specs.Slots.{Empty, Good, slot, number_in}
use Rattle.model.specs.Reach.{IsReachableDirectory, HasEntries, entries_in, names_once, slot_count}
use Rattle.model.specs.Rules.{ObeysRules}
use Rattle.model.proofs.Shape.{reach_parts}
use Rattle.model.proofs.Slots.{slots_of_uses}
use Rattle.model.proofs.Uses.{new_file_sound}
use Rattle.model.proofs.Sums.{sum-none, sum-one}
use Rattle.model.proofs.SlotLemmas.{names_from_number, reachable_directory, directory_sound, number_low, number_below, directory_number}
use Rattle.model.proofs.SameTree.{SameTree, kept}
use Rattle.model.proofs.SameShape.{SameShape}
use Rattle.model.proofs.Places.{put_here}
use Rattle.model.proofs.NewRecord.{outside_tree, other_directory, other_use}
use Rattle.model.proofs.SameReach.{SameReach}
use Rattle.model.proofs.SlotChange.{at_or_not, names_there, names_then, SlotChange, names_at_slot, names_at_slot_now}
use Rattle.ordering.specs.Cuts.{Cell, NumberBit, Pending, users_view}
use Rattle.ordering.specs.Places.{HasPlace}
use Rattle.ordering.specs.Ghosts.{Ghost, at_rest}
use Rattle.ordering.specs.Agrees.{AllAgree}
use Rattle.ordering.specs.Rewrites.{MayCreate}
use Rattle.ordering.specs.OneSlot.{OneSlot, MayEnter}
use Rattle.ordering.specs.Create.{creation, MayCreateFile}
use Rattle.ordering.proofs.Places.{place_back, place_of, place_from, slot_change}
use Rattle.ordering.proofs.Bits.{users_obey, sound_used, claim_used, place_used, number_bit_shape, set_number_keeps}
use Rattle.ordering.proofs.RecordKinds.{create_file_keeps}
use Rattle.ordering.proofs.NewNames.{enter_keeps}
use Rattle.ordering.proofs.SlotKinds.{no_file_directory}

-- an inode with one place has at most one entry
pub one_entry : (geo : Geometry) (v : View) (i d s : ℕ) → 1 ≤ i → d < inode_count geo → s < slot_count geo → ((e t c : ℕ) → HasPlace geo v i e t c → (e ≡ d) × (t ≡ s)) → (m : ℕ) → HasEntries geo v i m → m ≤ 1
one_entry geo v i d s low d_low s_low only m h =
    let in_directory : (e : ℕ) → (e ≡ d → ⊥) → cond (h.0 e) (entries_in geo v i e) 0 ≡ 0 = λ e other. elim (cases_Bool (h.0 e)) [
      | inr out ↦ ap (λ b. cond b (entries_in geo v i e) 0) out
      | inl member ↦ ap (λ b. cond b (entries_in geo v i e) 0) member ∙ sum-none (slot_count geo) (names_once geo v i e) (λ t b. none e t ((h.1 e).0 member) (λ at. other at.0))
    ] in
    let total : m ≡ cond (h.0 d) (entries_in geo v i d) 0 = h.2 ∙ sum-one (inode_count geo) (λ e. cond (h.0 e) (entries_in geo v i e) 0) d d_low (λ e b other. in_directory e other) in
    elim (cases_Bool (h.0 d)) [
      | inr out ↦ let z : cond (h.0 d) (entries_in geo v i d) 0 ≡ 0 = ap (λ b. cond b (entries_in geo v i d) 0) out in omega (arith, total, z)
      | inl member ↦
          let here : cond (h.0 d) (entries_in geo v i d) 0 ≡ names_once geo v i d s =
          ap (λ b. cond b (entries_in geo v i d) 0) member ∙ sum-one (slot_count geo) (names_once geo v i d) s s_low (λ t b other. none d t ((h.1 d).0 member) (λ at. other at.1)) in
          omega (arith, total, here, small d s)
    ]
  where
    small : (e t : ℕ) → names_once geo v i e t ≤ 1
    small e t = by (eqb (number_in (slot geo v e t)) i)
      where
        by : (b : Bool) → cond b 1 0 ≤ 1
        by true = omega arith
        by false = omega arith

    none : (e t : ℕ) → IsReachableDirectory geo v e → ((e ≡ d) × (t ≡ s) → ⊥) → names_once geo v i e t ≡ 0
    none e t r other = elim (cases_Bool (eqb (number_in (slot geo v e t)) i)) [
      | inl is ↦ absurd (
          let n = names_from_number geo v e t i low (eqb-true (number_in (slot geo v e t)) i is) in
          let p = place_of geo v i e t r n in other (only e t p.0 p.1))
      | inr isnt ↦ cond-false (eqb (number_in (slot geo v e t)) i) 1 0 isnt
    ]

-- an empty file has no position
has_nothing : (geo : Geometry) (k : ℕ) → IsTrue (has_position geo new_file k) → ⊥
has_nothing geo k h = let below : first_block geo k < 0 = (reach_parts geo (blocks_of new_file.size) k h).1 in omega (arith, below)

module _ (geo : Geometry) (disk : View) (q : List Pending) (held safe : ℕ → Bool) (n block : ℕ) (bytes : List ℕ) (d s : ℕ) (name : List ℕ) (after : List Cell)
    (may : MayCreateFile geo (users_view disk q) n block bytes d s name after) where
  abbrev ghost : Ghost
  ghost = at_rest held safe

  abbrev u0 : View
  u0 = users_view disk q

  abbrev u1 : View
  u1 = updated u0 (SetNumber n true)

  abbrev u2 : View
  u2 = updated u1 (SetInode n new_file)

  abbrev u3 : View
  u3 = updated u2 (SetBytes block bytes)

  abbrev q1 : List Pending
  q1 = record { change = SetNumber n true; after = [] } ∷ q

  abbrev q2 : List Pending
  q2 = record { change = SetInode n new_file; after = NumberBit n ∷ [] } ∷ q1

  pub create_keeps_all : AllAgree geo disk q ghost → AllAgree geo disk (creation n block bytes after q) ghost
  create_keeps_all all = enter_keeps geo disk q2 ghost after block bytes d s n name enter all2
    where
      rules : ObeysRules geo u0
      rules = users_obey geo disk q ghost all

      free : (u0.inode n).mode ≡ 0
      free = elim (cases_eq (u0.inode n).mode 0) [ inl z ↦ z | inr used ↦ absurd (both_ways (u0.number_marked n) may.unmarked (rules.rule4 n may.number used)) ]

      all1 : AllAgree geo disk q1 ghost
      all1 = set_number_keeps geo disk q ghost [] n may.number may.unmarked all

      rules1 : ObeysRules geo u1
      rules1 = users_obey geo disk q1 ghost all1

      first : Contains (NumberBit n ∷ []) (NumberBit n)
      first = (0, omega arith, refl)

      create : MayCreate geo disk q1 ghost (NumberBit n ∷ []) n new_file
      create = record {
        free = free;
        marked = put_here u0.number_marked n true;
        not_zeroed = refl;
        bit = first;
        sound = new_file_sound geo;
        blocks = record {
          number = may.number;
          sound = inr (new_file_sound geo);
          came = λ k t u. absurd (has_nothing geo k u);
          once = λ k j b u v x y. absurd (has_nothing geo k u);
          went = λ k b c. absurd (claim_used geo u1 n k b c free);
          held = λ b t. t;
          given_up = λ b m k t. t;
        };
      }

      all2 : AllAgree geo disk q2 ghost
      all2 = create_file_keeps geo disk q1 ghost (NumberBit n ∷ []) n new_file create all1

      rules2 : ObeysRules geo u2
      rules2 = users_obey geo disk q2 ghost all2

      -- nothing names the number yet
      tree : SameTree geo u1 u2
      tree = outside_tree geo u1 n new_file rules1.rule1
          (λ r. sound_used geo (u1.inode n) (directory_sound geo u1 n (reachable_directory geo u1 n r)) free)
          (λ e t r h. absurd (sound_used geo (u1.inode n) (rules1.rule6.sound e t n r h) free))

      shape : SameShape geo u0 u1
      shape = number_bit_shape geo u0 n true

      apart : d ≡ n → ⊥
      apart e = sound_used geo (u0.inode n) (subst (λ x. IsTrue (is_sound geo (u0.inode x))) e (directory_sound geo u0 d may.change.slot.directory)) free

      use_kept : (k : ℕ) → use_at geo u0 d k ≡ use_at geo u2 d k
      use_kept k = shape.uses d k ∙ other_use geo u1 n new_file d k apart

      slot_kept : (t : ℕ) → slot geo u0 d t ≡ slot geo u2 d t
      slot_kept t = slots_of_uses geo u0 u2 d t (other_directory geo u1 n new_file d apart) (use_kept (t / 16)) (λ a dir low c. refl)

      here : put_at u1.inode n new_file n ≡ new_file
      here = put_here u1.inode n new_file

      one_slot : OneSlot geo u2 block bytes d s Empty (Good n name)
      one_slot = let h = may.change.slot in record {
        claim = (sym (use_kept (s / 16)) ∙ h.claim.0, h.claim.1);
        directory = sym (other_directory geo u1 n new_file d apart) ∙ h.directory;
        below = h.below;
        others = h.others;
        before = h.before;
        now = h.now;
      }

      its_slot : SlotChange geo u2 block bytes d s Empty (Good n name)
      its_slot = slot_change one_slot

      not_directory : IsTrue (is_directory_at geo u2 n) → ⊥
      not_directory = no_file_directory geo u2 n (ap (λ (y : Inode). y.mode) here)

      reach : SameReach geo u2 u3
      reach = record {
        directories = λ j. refl;
        names = λ e t j dir. elim (at_or_not d s e t) [
          | inr other ↦ (names_there geo u2 block bytes d s Empty (Good n name) its_slot rules2.rule3 e t j other, names_then geo u2 block bytes d s Empty (Good n name) its_slot rules2.rule3 e t j other)
          | inl at ↦ (
            (λ m. absurd (let k = names_at_slot geo u2 block bytes d s Empty (Good n name) its_slot rules2.rule3 e t j at m in let same : Empty ≡ Good j k.0 = k.1 in cc)),
            (λ m. absurd (let k = names_at_slot_now geo u2 block bytes d s Empty (Good n name) its_slot rules2.rule3 e t j at m in let same : Good n name ≡ Good j k.0 = k.1 in let nj : j ≡ n = cc in not_directory (subst (λ x. IsTrue (is_directory_at geo u2 x)) nj dir))),
          )
        ];
      }

      only : (e t c : ℕ) → HasPlace geo u3 n e t c → (e ≡ d) × (t ≡ s)
      only e t c p = elim (at_or_not d s e t) [
        | inl at ↦ at
        | inr other ↦ absurd (place_used geo u1 rules1 n e t c (place_back geo u1 u2 tree n e t c (place_from geo u2 block bytes d s Empty (Good n name) its_slot rules2.rule3 reach n e t c other p)) free)
      ]

      enter : MayEnter geo u2 ghost after block bytes d s n name
      enter = record {
        change = record { slot = one_slot; reachable = kept geo u1 u2 tree d (kept geo u0 u1 shape.tree d may.change.reachable); after_dots = may.change.after_dots };
        none_gone = λ g. refl;
        fresh_name = record {
          new = λ t j l o e. may.fresh_name.new t j l o (slot_kept t ∙ e);
          others = λ k b l c o. may.fresh_name.others k b l (use_kept k ∙ c.0, c.1) o;
        };
        file = ap (λ (y : Inode). y.mode) here;
        sound = and_from (is_number geo n) (is_sound geo (put_at u1.inode n new_file n)) may.number (ap (is_sound geo) here ∙ new_file_sound geo);
        record_first = may.record_first;
        links = λ m h.
            let few = one_entry geo u3 n d s (omega (arith, number_low geo n may.number)) (number_below geo d (directory_number geo u0 d may.change.slot.directory)) (omega (arith, may.change.slot.below)) only m h in
            let links : (put_at u1.inode n new_file n).links ≡ 1 = ap (λ (y : Inode). y.links) here in
            omega (arith, few, links);
      }
