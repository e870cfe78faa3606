-- A view that lost entries of files obeys the rules if the one before did.
use Rattle.std.proofs.Common.{◌≡◌, ◌≤◌, ℕ, zero, suc, Bool, true, false, cond, ◌&&◌, eqb, List, inl, inr, refl, sym, ap, ◌∙◌, subst, arith, IsTrue, IsFalse, eq-eqb, eqb-true, le_refl, le_of_eq}
use Rattle.std.proofs.lemmas.Bool.{cases_Bool, both_ways, cond-true, cond-false}
use Rattle.model.specs.Layout.{Geometry, is_number, root, inode_count}
use Rattle.model.specs.View.{View, Inode}
use Rattle.model.specs.Uses.{is_directory_at, is_sound_at, is_directory, is_sound, IsUse}
use Rattle.model.specs.Slots.{Empty, Good, Bad, slot, number_in, Names}
use Rattle.model.specs.Reach.{Path, IsReachableDirectory, IsReachable, IsEntry, IsReachableSet, entries_of, entries_in, names_once, slot_count, HasParent}
use Rattle.model.specs.Rules.{ObeysRules}
use Rattle.model.specs.Unlink.{Unlinks}
use Rattle.model.proofs.Sums.{sum-le}
use Rattle.model.proofs.SlotLemmas.{names_stands, names_one, names_from_number, number_from_names, number_low, directory_number, reachable_directory}

module _ (geo : Geometry) (v w : View) (u : Unlinks geo v w) where
  sound_same : (i : ℕ) → is_sound_at geo v i ≡ is_sound_at geo w i
  sound_same i = ap (λ r. is_number geo i && is_sound geo r) (u.inode i)

  directory_same : (i : ℕ) → is_directory_at geo v i ≡ is_directory_at geo w i
  directory_same i = ap (λ r. is_number geo i && is_sound geo r && is_directory r) (u.inode i)

  slot_back : (d s i : ℕ) (name : List ℕ) → slot geo w d s ≡ Good i name → slot geo v d s ≡ Good i name
  slot_back d s i name e = elim (u.slots d s) [ inl same ↦ same ∙ e | inr gone ↦ absurd (let bad : Empty ≡ Good i name = sym gone.0 ∙ e in cc) ]

  names_back : (d s i : ℕ) → Names geo w d s i → Names geo v d s i
  names_back d s i h = (h.0, slot_back d s i h.0 h.1)

  names_kept : (d s i : ℕ) → IsTrue (is_directory_at geo v i) → Names geo v d s i → Names geo w d s i
  names_kept d s i dir h = elim (u.slots d s) [
    | inl same ↦ (h.0, sym same ∙ h.1)
    | inr gone ↦ absurd (both_ways (is_directory_at geo v i) (subst (λ k. IsFalse (is_directory_at geo v k)) (names_one geo v d s gone.2 i gone.3 h) gone.4) dir)
  ]

  path_back : (n d : ℕ) → Path geo w n d → Path geo v n d
  path_back zero d p = (p.0, directory_same root ∙ p.1)
  path_back (suc n) d p = (p.0, p.1, path_back n p.0 p.2, p.3, names_back p.0 p.1 d p.4, directory_same d ∙ p.5)

  path_kept : (n d : ℕ) → Path geo v n d → Path geo w n d
  path_kept zero d p = (p.0, sym (directory_same root) ∙ p.1)
  path_kept (suc n) d p = (p.0, p.1, path_kept n p.0 p.2, p.3, names_kept p.0 p.1 d p.5 p.4, sym (directory_same d) ∙ p.5)

  back : (d : ℕ) → IsReachableDirectory geo w d → IsReachableDirectory geo v d
  back d r = (r.0, path_back r.0 d r.1)

  kept : (d : ℕ) → IsReachableDirectory geo v d → IsReachableDirectory geo w d
  kept d r = (r.0, path_kept r.0 d r.1)

  entry_back : (d s i : ℕ) → IsEntry geo w d s i → IsEntry geo v d s i
  entry_back d s i e = record { reachable = back d e.reachable; after_dots = e.after_dots; names = names_back d s i e.names }

  entry_kept : (d s i : ℕ) → IsTrue (is_directory_at geo v i) → IsEntry geo v d s i → IsEntry geo w d s i
  entry_kept d s i dir e = record { reachable = kept d e.reachable; after_dots = e.after_dots; names = names_kept d s i dir e.names }

  reachable_back : (i : ℕ) → IsReachable geo w i → IsReachable geo v i
  reachable_back i (inl r) = inl (back i r)
  reachable_back i (inr r) = inr (sound_same i ∙ r.0, r.1, r.2, entry_back r.1 r.2 i r.3)

  use_back : (i k x : ℕ) → IsUse geo w i k x → IsUse geo v i k x
  use_back i k x h = u.uses i k ∙ h

  parent_kept : (d : ℕ) → IsReachableDirectory geo v d → HasParent geo v d → HasParent geo w d
  parent_kept d r (inl p) = inl (p.0, names_kept d 1 root (subst (λ k. IsTrue (is_directory_at geo v k)) p.0 (reachable_directory geo v d r)) p.1)
  parent_kept d r (inr p) =
      inr (p.0, p.1, p.2, names_kept d 1 p.1 (reachable_directory geo v p.1 p.4.reachable) p.3, entry_kept p.1 p.2 d (reachable_directory geo v d r) p.4)

  reachable_low : (i : ℕ) → IsReachable geo v i → 1 ≤ i
  reachable_low i (inl r) = omega (arith, number_low geo i (directory_number geo v i (reachable_directory geo v i r)))
  reachable_low i (inr r) = omega (arith, number_low geo i (names_stands geo v r.1 r.2 i r.3.names).number)

  fewer_names : (i d s : ℕ) → 1 ≤ i → names_once geo w i d s ≤ names_once geo v i d s
  fewer_names i d s low = elim (cases_Bool (eqb (number_in (slot geo w d s)) i)) [
    | inl t ↦
        let h = names_back d s i (names_from_number geo w d s i low (eqb-true (number_in (slot geo w d s)) i t)) in
        le_of_eq (cond-true (eqb (number_in (slot geo w d s)) i) 1 0 t ∙ sym (cond-true (eqb (number_in (slot geo v d s)) i) 1 0 (eq-eqb (number_in (slot geo v d s)) i (number_from_names geo v d s i h))))
    | inr f ↦ let none : names_once geo w i d s ≡ 0 = cond-false (eqb (number_in (slot geo w d s)) i) 1 0 f in omega (arith, none)
  ]

  fewer_in : (set : ℕ → Bool) (i d : ℕ) → 1 ≤ i → cond (set d) (entries_in geo w i d) 0 ≤ cond (set d) (entries_in geo v i d) 0
  fewer_in set i d low = elim (set d) as (λ b. cond b (entries_in geo w i d) 0 ≤ cond b (entries_in geo v i d) 0) [
    | true ↦ sum-le (slot_count geo) (names_once geo w i d) (names_once geo v i d) (λ s b. fewer_names i d s low)
    | false ↦ le_refl 0
  ]

  fewer : (set : ℕ → Bool) (i : ℕ) → 1 ≤ i → entries_of geo w set i ≤ entries_of geo v set i
  fewer set i low =
      sum-le (inode_count geo) (λ d. cond (set d) (entries_in geo w i d) 0) (λ d. cond (set d) (entries_in geo v i d) 0) (λ d b. fewer_in set i d low)

  set_back : (set : ℕ → Bool) → IsReachableSet geo w set → IsReachableSet geo v set
  set_back set h d = ((λ t. back d ((h d).0 t)), (λ r. (h d).1 (kept d r)))

  mode_same : (i : ℕ) → (v.inode i).mode ≡ (w.inode i).mode
  mode_same i = ap (λ (r : Inode). r.mode) (u.inode i)

  pub unlinked_obeys : ObeysRules geo v → ObeysRules geo w
  unlinked_obeys o = record {
    rule1 = sym (directory_same root) ∙ o.rule1;
    rule2 = λ i n. elim (o.rule2 i n) [ inl z ↦ inl (sym (mode_same i) ∙ z) | inr s ↦ inr (ap (is_sound geo) (sym (u.inode i)) ∙ s) ];
    rule3 = record {
      claims = λ i k x h. o.rule3.claims i k x (use_back i k x h);
      marked = λ i k a c. sym (u.block_marked a) ∙ o.rule3.marked i k a (use_back i k a c.0, c.1);
      once = λ i k j l a c b. o.rule3.once i k j l a (use_back i k a c.0, c.1) (use_back j l a b.0, b.1);
    };
    rule4 = λ i n used. sym (u.number_marked i) ∙ o.rule4 i n (λ z. used (sym (mode_same i) ∙ z));
    rule5 = λ d r. let old = o.rule5 d (back d r) in (names_kept d 0 d (reachable_directory geo v d (back d r)) old.0, parent_kept d (back d r) old.1);
    rule6 = record {
      none_bad = λ d s r b. elim (u.slots d s) [ inl same ↦ o.rule6.none_bad d s (back d r) (same ∙ b) | inr gone ↦ let bad : Empty ≡ Bad = sym gone.0 ∙ b in cc ];
      distinct = λ d s t i j name r p q e f. o.rule6.distinct d s t i j name (back d r) p q (slot_back d s i name e) (slot_back d t j name f);
      sound = λ d s i r h. ap (is_sound geo) (sym (u.inode i)) ∙ o.rule6.sound d s i (back d r) (names_back d s i h);
    };
    rule7 = record {
      once = λ d s e t i dir h k. o.rule7.once d s e t i (directory_same i ∙ dir) (entry_back d s i h) (entry_back e t i k);
      no_root = λ d s h. o.rule7.no_root d s (entry_back d s root h);
    };
    rule8 = λ i n r e.
        let enough = o.rule8 i (entries_of geo v e.0 i) (reachable_back i r) (e.0, set_back e.0 e.1, refl) in
        let less = fewer e.0 i (reachable_low i (reachable_back i r)) in
        let links : (v.inode i).links ≡ (w.inode i).links = ap (λ (x : Inode). x.links) (u.inode i) in
        omega (arith, enough, less, links, e.2);
  }
