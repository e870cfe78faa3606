-- The fresh image obeys the rules.
use Rattle.std.proofs.Common.{◌≡◌, ◌≢◌, ◌<◌, ◌≤◌, ◌/◌, ◌%◌, ◌*◌, ◌+◌, ◌-◌, ℕ, zero, suc, true, cond, ◌&&◌, eqb, ltb, leb, Some, inl, inr, refl, sym, ap, ◌∙◌, subst, arith, ◌||◌, [], ◌∷◌, IsTrue, mul-le-mul, mod-eq_of_lt, le_refl, le_of_eq, le-leb as le-leb', ne_eqb, le-ltb, ap₂}
use Rattle.std.specs.Option.{option_map_or}
use Rattle.std.proofs.lemmas.Bool.{and_parts, and_from, eqb-true, eq-eqb, lt-ltb, cases_eq, cond-true, cond-false, cases_lt, agree_below_at, false_from_ne_true}
use Rattle.std.proofs.lemmas.Bool.Decides.{nat_tests}
use Rattle.model.specs.Layout.{Geometry, IsGeometry, is_number, is_data_address, root, inode_count, block_count, header_blocks, place_in_group}
use Rattle.model.specs.View.{Inode, u32_at}
use Rattle.model.specs.Shape.{most_blocks}
use Rattle.model.specs.Uses.{is_directory_at, is_sound_at, is_sound, record_use, claim_at, IsUse, IsClaim}
use Rattle.model.specs.Slots.{Absent, Empty, Good, Bad, slot, slot_in, number_in, Names}
use Rattle.model.specs.Reach.{IsReachableDirectory, IsReachable, IsEntry, HasEntries, entries_in, names_once, slot_count, HasParent}
use Rattle.model.proofs.Shape.{many_blocks}
use Rattle.model.specs.Rules.{ObeysRules}
use Rattle.model.proofs.Sums.{sum-one, sum-front}
use Rattle.model.specs.Fresh.{fresh_view, first_data, root_inode, root_bytes}
use Rattle.model.specs.View.{free_inode}
use Rattle.model.proofs.SlotLemmas.{slot_content, names_stands, names_one, names_from_number, number_from_names, directory_sound, reachable_directory}
use Rattle.model.proofs.Steps.{use_sound}
use Rattle.model.proofs.UseLemmas.{claim_from, claim_parts}
use Rattle.model.proofs.Uses.{use_number, number_use, first_of_one, only_of_one}

module _ (geo : Geometry) (ok : IsGeometry geo) where
  enough_numbers : 2 < inode_count geo
  enough_numbers = omega (arith, mul-le-mul ok.some_group ok.enough_inodes)

  pub root_number : IsTrue (is_number geo root)
  root_number = lt-ltb 2 (inode_count geo) enough_numbers

  first_is : first_data geo ≡ 2 + geo.inodes / 8
  first_is = omega arith

  first_place : place_in_group geo (first_data geo) ≡ header_blocks geo
  first_place =
      let e : first_data geo - 1 ≡ 1 + geo.inodes / 8 = omega arith in
      let low : 1 + geo.inodes / 8 < geo.blocks = ok.room_for_data in
      ap (λ n. n % geo.blocks) e ∙ mod-eq_of_lt low

  first_below : first_data geo < block_count geo
  first_below = omega (arith, mul-le-mul ok.some_group (le_refl geo.blocks), ok.room_for_data)

  pub first_is_data : IsTrue (is_data_address geo (first_data geo))
  first_is_data =
      and_from (ltb 0 (first_data geo) && ltb (first_data geo) (block_count geo)) (leb (header_blocks geo) (place_in_group geo (first_data geo)))
      (and_from (ltb 0 (first_data geo)) (ltb (first_data geo) (block_count geo)) (lt-ltb 0 (first_data geo) (omega arith)) (lt-ltb (first_data geo) (block_count geo) first_below))
      (le-leb' (header_blocks geo) (place_in_group geo (first_data geo)) (le_of_eq (sym first_place)))

  -- every other record is free
  other_free : (i : ℕ) → (i ≡ 2 → ⊥) → (fresh_view geo).inode i ≡ free_inode
  other_free i differs = cond-false (eqb i 2) (root_inode geo) free_inode (ne_eqb i 2 differs)

  pub only_root_sound : (i : ℕ) → IsTrue (is_sound geo ((fresh_view geo).inode i)) → i ≡ 2
  only_root_sound i h =
      elim (cases_eq i 2) [
        | inl e ↦ e
        | inr differs ↦ absurd (let bad : IsTrue (is_sound geo free_inode) = subst (λ r. IsTrue (is_sound geo r)) (other_free i differs) h in cc)
      ]

  root_is_sound : IsTrue (is_sound geo (root_inode geo))
  root_is_sound = le-leb' 1 (most_blocks geo) (let many = many_blocks geo in omega arith)

  root_sound_at : IsTrue (is_sound_at geo (fresh_view geo) root)
  root_sound_at = and_from (is_number geo root) (is_sound geo (root_inode geo)) root_number root_is_sound

  root_sound : IsTrue (is_directory_at geo (fresh_view geo) root)
  root_sound = and_from (is_sound_at geo (fresh_view geo) root) true root_sound_at refl

  -- the root's block is the one use
  pub record IsRootUse (i k v : ℕ) : Type 0 where
    pub inode : i ≡ 2
    pub position : k ≡ 0
    pub value : v ≡ first_data geo

  one_use : (i k v : ℕ) → IsUse geo (fresh_view geo) i k v → IsRootUse i k v
  one_use i k v u =
      let used = use_number geo (fresh_view geo) i k v u in
      let is_root = only_root_sound i (use_sound geo (fresh_view geo) ((fresh_view geo).inode i) k v used.1) in
      let only =
      only_of_one geo (fresh_view geo) (root_inode geo) (first_data geo) root_is_sound refl refl k v
      (subst (λ n. record_use geo (fresh_view geo) ((fresh_view geo).inode n) k ≡ Some v) is_root used.1) in
      record { inode = is_root; position = only.0; value = only.1 }

  pub root_claims : IsClaim geo (fresh_view geo) 2 0 (first_data geo)
  root_claims =
      (number_use geo (fresh_view geo) 2 0 (first_data geo) root_number (first_of_one geo (fresh_view geo) (root_inode geo) (first_data geo) root_is_sound refl refl), first_is_data)

  -- ---- the slots of the root

  root_block : (fresh_view geo).bytes (first_data geo) ≡ root_bytes
  root_block = cond-true (eqb (first_data geo) (first_data geo)) root_bytes _ (eq-eqb (first_data geo) (first_data geo) refl)

  -- slot s of the root, as its block has it
  root_slot : (s : ℕ) → s < 16 → slot geo (fresh_view geo) 2 s ≡ slot_in geo root_bytes s
  unfolding slot
  root_slot s b =
      let front : s / 16 ≡ 0 = omega arith in
      cond-true (is_directory_at geo (fresh_view geo) 2 && ltb (s / 16) (most_blocks geo))
      (option_map_or (λ a. slot_in geo ((fresh_view geo).bytes a) s) (claim_at geo (fresh_view geo) 2 (s / 16)) Absent) Absent
      (and_from (is_directory_at geo (fresh_view geo) 2) (ltb (s / 16) (most_blocks geo)) root_sound (lt-ltb (s / 16) (most_blocks geo) (let many = many_blocks geo in omega arith)))
      ∙ ap (λ o. option_map_or (λ a. slot_in geo ((fresh_view geo).bytes a) s) o Absent)
      (ap (claim_at geo (fresh_view geo) 2) front ∙ claim_from geo (fresh_view geo) 2 0 (first_data geo) root_claims)
      ∙ ap (λ bytes. slot_in geo bytes s) root_block

  slot_zero : Names geo (fresh_view geo) 2 0 2
  slot_zero = (46 ∷ [], root_slot 0 (omega arith) ∙ ap (λ t. cond (t && true && true && true) (Good 2 (46 ∷ [])) Bad) root_number)

  slot_one : Names geo (fresh_view geo) 2 1 2
  slot_one = (46 ∷ 46 ∷ [], root_slot 1 (omega arith) ∙ ap (λ t. cond (t && true && true && true) (Good 2 (46 ∷ 46 ∷ [])) Bad) root_number)

  -- the other slots of the root's block are empty
  rest_is_zero : (s : ℕ) → 2 ≤ s → s < 16 → slot_in geo root_bytes s ≡ Empty
  rest_is_zero s low high =
      let test : (ltb s 2 || eqb (u32_at root_bytes (64 * (s % 16))) 0) ≡ true = agree_below_at (λ k. ltb k 2 || eqb (u32_at root_bytes (64 * (k % 16))) 0) (λ k. true) 16 s refl high in
      let zero : eqb (u32_at root_bytes (64 * (s % 16))) 0 ≡ true = ap (λ t. t || eqb (u32_at root_bytes (64 * (s % 16))) 0) (sym (le-ltb s 2 low)) ∙ test in
      cond-true (eqb (u32_at root_bytes (64 * (s % 16))) 0) Empty _ zero

  pub record IsRootDot (d s i : ℕ) : Type 0 where
    pub directory : d ≡ 2
    pub dot : s < 2
    pub names : i ≡ 2

  -- the dots of the root are the only good slots
  only_dots : (d s i : ℕ) → Names geo (fresh_view geo) d s i → IsRootDot d s i
  only_dots d s i h =
      let at = names_stands geo (fresh_view geo) d s i h in
      let c = one_use d (s / 16) at.place.block (claim_parts geo (fresh_view geo) d (s / 16) at.place.block at.place.claimed).0 in
      let high : s < 16 = omega (arith, c.position) in
      let content = subst (λ a. slot_in geo ((fresh_view geo).bytes a) s ≡ Good i at.name) c.value at.place.content in
      let good : slot_in geo root_bytes s ≡ Good i at.name = subst (λ bytes. slot_in geo bytes s ≡ Good i at.name) root_block content in
      elim (cases_lt s 2) [
        | inl dot ↦ record { directory = c.inode; dot = dot; names = dot_names s i dot (subst (λ e. Names geo (fresh_view geo) e s i) c.inode h) }
        | inr rest ↦ absurd (let bad : Empty ≡ Good i at.name = sym (rest_is_zero s rest high) ∙ good in cc)
      ]
    where
      dot_names : (s i : ℕ) → s < 2 → Names geo (fresh_view geo) 2 s i → i ≡ 2
      dot_names zero i b h = names_one geo (fresh_view geo) 2 0 i 2 h slot_zero
      dot_names (suc zero) i b h = names_one geo (fresh_view geo) 2 1 i 2 h slot_one
      dot_names (suc (suc s)) i b h = absurd (omega (arith, b))

  -- ---- the directories and the entries

  only_root : (d : ℕ) → IsReachableDirectory geo (fresh_view geo) d → d ≡ 2
  only_root d r = only_root_sound d (directory_sound geo (fresh_view geo) d (reachable_directory geo (fresh_view geo) d r))

  pub root_reached : IsReachableDirectory geo (fresh_view geo) 2
  root_reached = (0, (refl, root_sound))

  no_entry : (d s i : ℕ) → IsEntry geo (fresh_view geo) d s i → ⊥
  no_entry d s i h = omega (arith, h.after_dots, (only_dots d s i h.names).dot)

  not_named : (s : ℕ) → (s < 2 → ⊥) → names_once geo (fresh_view geo) 2 2 s ≡ 0
  not_named s differs =
      cond-false (eqb (number_in (slot geo (fresh_view geo) 2 s)) 2) 1 0
      (ne_eqb (number_in (slot geo (fresh_view geo) 2 s)) 2 (λ e. differs (only_dots 2 s 2 (names_from_number geo (fresh_view geo) 2 s 2 (omega arith) e)).dot))

  named : (s : ℕ) → Names geo (fresh_view geo) 2 s 2 → names_once geo (fresh_view geo) 2 2 s ≡ 1
  named s h = cond-true (eqb (number_in (slot geo (fresh_view geo) 2 s)) 2) 1 0 (eq-eqb (number_in (slot geo (fresh_view geo) 2 s)) 2 (number_from_names geo (fresh_view geo) 2 s 2 h))

  two_in_root : entries_in geo (fresh_view geo) 2 2 ≡ 2
  two_in_root =
      sum-front (slot_count geo) (names_once geo (fresh_view geo) 2 2) (let many = many_blocks geo in omega (arith, many)) (λ s low. not_named s (λ b. omega (arith, low, b)))
      ∙ ap₂ (λ a b. a + b) (named 0 slot_zero) (named 1 slot_one)

  pub two_entries : (e : ℕ) → HasEntries geo (fresh_view geo) 2 e → e ≡ 2
  two_entries e (set, is_set, is) =
      is ∙ sum-one (inode_count geo) (λ d. cond (set d) (entries_in geo (fresh_view geo) 2 d) 0) 2 enough_numbers
      (λ d b differs. cond-false (set d) (entries_in geo (fresh_view geo) 2 d) 0 (false_from_ne_true (set d) (λ t. differs (only_root d ((is_set d).0 t)))))
      ∙ cond-true (set 2) (entries_in geo (fresh_view geo) 2 2) 0 ((is_set 2).1 root_reached)
      ∙ two_in_root

  pub only_root_reachable : (i : ℕ) → IsReachable geo (fresh_view geo) i → i ≡ 2
  only_root_reachable i (inl r) = only_root i r
  only_root_reachable i (inr h) = absurd (no_entry h.1 h.2 i h.3)

  used_mode : (i : ℕ) → ((fresh_view geo).inode i).mode ≢ 0 → i ≡ 2
  used_mode i used = elim (cases_eq i 2) [ inl e ↦ e | inr differs ↦ absurd (used (ap (λ (r : Inode). r.mode) (other_free i differs))) ]

  pub marked_first : (a : ℕ) → IsTrue ((fresh_view geo).block_marked a) → a ≡ first_data geo
  marked_first a h = eqb-true a (first_data geo) h

  no_bad : (s : ℕ) → slot geo (fresh_view geo) 2 s ≡ Bad → ⊥
  no_bad s b =
      let at = slot_content geo (fresh_view geo) 2 s Bad (λ q. cc) b in
      let c = one_use 2 (s / 16) at.block (claim_parts geo (fresh_view geo) 2 (s / 16) at.block at.claimed).0 in
      let high : s < 16 = omega (arith, c.position) in
      dots s high b
    where
      dots : (s : ℕ) → s < 16 → slot geo (fresh_view geo) 2 s ≡ Bad → ⊥
      dots zero high b = let e : Good 2 slot_zero.0 ≡ Bad = sym slot_zero.1 ∙ b in cc
      dots (suc zero) high b = let e : Good 2 slot_one.0 ≡ Bad = sym slot_one.1 ∙ b in cc
      dots (suc (suc s)) high b = let e : Empty ≡ Bad = sym (rest_is_zero (suc (suc s)) (omega arith) high) ∙ sym (root_slot (suc (suc s)) high) ∙ b in cc

  pub fresh_obeys : ObeysRules geo (fresh_view geo)
  fresh_obeys = record {
    rule1 = root_sound;
    rule2 = λ i n. elim (cases_eq i 2) [ inl e ↦ inr (subst (λ k. IsTrue (is_sound geo ((fresh_view geo).inode k))) (sym e) root_is_sound) | inr differs ↦ inl (ap (λ (r : Inode). r.mode) (other_free i differs)) ];
    rule3 = record {
      claims = λ i k v u. subst (λ a. IsTrue (is_data_address geo a)) (sym (one_use i k v u).value) first_is_data;
      marked = λ i k a c. eq-eqb a (first_data geo) (one_use i k a c.0).value;
      once = λ i k j l a c b. ((one_use i k a c.0).inode ∙ sym (one_use j l a b.0).inode, (one_use i k a c.0).position ∙ sym (one_use j l a b.0).position);
    };
    rule4 = λ i n used. eq-eqb i 2 (used_mode i used);
    rule5 = λ d r. subst (λ e. Names geo (fresh_view geo) e 0 e × HasParent geo (fresh_view geo) e) (sym (only_root d r)) (slot_zero, inl (refl, slot_one));
    rule6 = record {
      none_bad = λ d s r b. no_bad s (subst (λ e. slot geo (fresh_view geo) e s ≡ Bad) (only_root d r) b);
      distinct = λ d s t i j name r p q e f. absurd (omega (arith, p, (only_dots d s i (name, e)).dot));
      sound = λ d s i r h. subst (λ k. IsTrue (is_sound geo ((fresh_view geo).inode k))) (sym (only_dots d s i h).names) root_is_sound;
    };
    rule7 = record {
      once = λ d s e t i dir h k. absurd (no_entry d s i h);
      no_root = λ d s h. no_entry d s root h;
    };
    rule8 = λ i n r e. subst (λ k. n ≤ ((fresh_view geo).inode k).links) (sym (only_root_reachable i r))
        (le_of_eq (two_entries n (subst (λ k. HasEntries geo (fresh_view geo) k n) (only_root_reachable i r) e)));
  }
