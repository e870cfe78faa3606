-- A view that obeys the rules of version 1, in both versions: sound inodes, uses, slots, entries and names.
use Rattle.std.proofs.Common.{◌≡◌, ◌<◌, ◌≤◌, ◌/◌, ◌%◌, ℕ, Bool, cond, ◌&&◌, ◌||◌, eqb, ltb, leb, List, inl, inr, refl, sym, ap, ◌∙◌, subst, arith, Option, Some, None, IsTrue, IsFalse}
use Rattle.std.specs.Option.{option_map, option_map_or}
use Rattle.std.proofs.lemmas.Bool.{cases_lt, cases_Bool, and_parts, and_from, and_left, and_right, cond-false, false_from_ne_true, both_ways, le-ltb, le-leb, ne_eqb}
use Rattle.model.specs.Layout.{Geometry, is_number, inode_count}
use Rattle.model.specs.View.{View, Inode}
use Rattle.model.specs.Shape.{most_blocks}
use Rattle.model.specs.Uses.{blocks_of, is_sound, is_sound_at, is_directory, is_directory_at, record_use, use_at, claim_at, IsUse, IsClaimed}
use Rattle.model.specs.Slots.{Absent, slot, slot_in, number_in}
use Rattle.model.specs.Reach.{slot_count, names_once, entries_in, entries_of}
use Rattle.model.specs.Rules.{ObeysRules}
use Rattle.model.proofs.Alike.{same_and}
use Rattle.model.proofs.Steps.{use_sound}
use Rattle.model.proofs.Sums.{sum-same}
use Rattle.model.proofs.Slots.{slot_claimed, slot_absent}
use Rattle.model.proofs.Uses.{sound_few, use_number, number_use}
use Rattle.machine.specs.Paths.{has_name, lookup, slot_of}
use Rattle.machine.proofs.Decisions.{sound_mode}
use Rattle.versions.specs.Shown.{of_version}
use Rattle.versions.proofs.Positions.{Near, Table, Behind, small, use_small}
use Rattle.versions.proofs.Sums.{sum_beyond, first_beyond, first_same}

-- ---- the two versions
module _ (geo : Geometry) where
  abbrev pub single : Geometry
  single = of_version 1 geo

  abbrev pub double : Geometry
  double = of_version 2 geo

  pub single_most : most_blocks single ≡ 268
  unfolding most_blocks
  single_most = refl

  pub double_most : most_blocks double ≡ 65804
  unfolding most_blocks
  double_most = refl

-- position k of version 1 is position l of version 2: the first table stands behind all blocks
pub data IsMoved (geo : Geometry) (k l : ℕ) : Type 0 where
  Same : k < 268 → l ≡ k → IsMoved geo k l
  Last : k ≡ most_blocks (single geo) → l ≡ most_blocks (double geo) → IsMoved geo k l

pub moved_once : (geo : Geometry) (k j l m : ℕ) → IsMoved geo k l → IsMoved geo j m → k ≡ j → l ≡ m
moved_once geo k j l m (Same low is) (Same low2 is2) e = omega arith
moved_once geo k j l m (Last at is) (Last at2 is2) e = is ∙ sym is2
moved_once geo k j l m (Same low is) (Last at is2) e = let most = single_most geo in absurd (omega arith)
moved_once geo k j l m (Last at is) (Same low is2) e = let most = single_most geo in absurd (omega arith)

-- ---- records
pub more_sound : (geo : Geometry) (inode : Inode) → IsTrue (is_sound (single geo) inode) → IsTrue (is_sound (double geo) inode)
more_sound geo inode sound =
    let kind = and_parts (eqb inode.mode 1 || eqb inode.mode 2 && ltb 0 inode.size && eqb (inode.size % 1024) 0) (leb (blocks_of inode.size) (most_blocks (single geo))) sound in
    let few = sound_few (single geo) inode sound in
    and_from (eqb inode.mode 1 || eqb inode.mode 2 && ltb 0 inode.size && eqb (inode.size % 1024) 0) (leb (blocks_of inode.size) (most_blocks (double geo))) kind.0
    (le-leb (blocks_of inode.size) (most_blocks (double geo)) (omega (arith, few, single_most geo, double_most geo)))

module _ (geo : Geometry) (view : View) (inode : Inode) (sound : IsTrue (is_sound (single geo) inode)) where
  pub few_blocks : blocks_of inode.size ≤ 268
  few_blocks = omega (arith, sound_few (single geo) inode sound, single_most geo)

  -- it uses the same in version 2, at positions that are moved so, and the other way round
  pub record_there : (k v : ℕ) → record_use (single geo) view inode k ≡ Some v → (l : ℕ) × (record_use (double geo) view inode l ≡ Some v) × IsMoved geo k l
  record_there k v u = elim (small (single geo) view inode few_blocks k v u) [
    | Near low below is ↦ (k, use_small (double geo) view inode (more_sound geo inode sound) k v (Near low below is), Same (omega arith) refl)
    | Table at many is ↦ (most_blocks (double geo), use_small (double geo) view inode (more_sound geo inode sound) (most_blocks (double geo)) v (Table refl many is), Last at refl)
    | Behind from low below address is ↦ (k, use_small (double geo) view inode (more_sound geo inode sound) k v (Behind from low below address is), Same low refl)
  ]

  pub record_back : (l v : ℕ) → record_use (double geo) view inode l ≡ Some v → (k : ℕ) × (record_use (single geo) view inode k ≡ Some v) × IsMoved geo k l
  record_back l v u = elim (small (double geo) view inode few_blocks l v u) [
    | Near low below is ↦ (l, use_small (single geo) view inode sound l v (Near low below is), Same (omega arith) refl)
    | Table at many is ↦ (most_blocks (single geo), use_small (single geo) view inode sound (most_blocks (single geo)) v (Table refl many is), Last refl at)
    | Behind from low below address is ↦ (l, use_small (single geo) view inode sound l v (Behind from low below address is), Same low refl)
  ]

-- ---- slots past the last block
pub past_absent : (geo : Geometry) (view : View) (d s : ℕ) → most_blocks geo ≤ s / 16 → slot geo view d s ≡ Absent
unfolding slot
past_absent geo view d s far =
    cond-false (is_directory_at geo view d && ltb (s / 16) (most_blocks geo)) (option_map_or (λ a. slot_in geo (view.bytes a) s) (claim_at geo view d (s / 16)) Absent) Absent
    (and_right (is_directory_at geo view d) (ltb (s / 16) (most_blocks geo)) (le-ltb (s / 16) (most_blocks geo) far))

pub no_directory_absent : (geo : Geometry) (view : View) (d s : ℕ) → IsFalse (is_directory_at geo view d) → slot geo view d s ≡ Absent
unfolding slot
no_directory_absent geo view d s none =
    cond-false (is_directory_at geo view d && ltb (s / 16) (most_blocks geo)) (option_map_or (λ a. slot_in geo (view.bytes a) s) (claim_at geo view d (s / 16)) Absent) Absent
    (and_left (is_directory_at geo view d) (ltb (s / 16) (most_blocks geo)) none)

-- ---- under the rules of version 1
module _ (geo : Geometry) (view : View) (rules : ObeysRules (single geo) view) where
  sound_if : (i : ℕ) → IsTrue (is_number geo i) → IsTrue (is_sound (double geo) (view.inode i)) → IsTrue (is_sound (single geo) (view.inode i))
  sound_if i number sound = elim (rules.rule2 i number) [
    | inl free ↦ absurd (sound_mode (double geo) (view.inode i) sound free)
    | inr is ↦ is
  ]

  pub same_sound : (i : ℕ) → IsTrue (is_number geo i) → is_sound (single geo) (view.inode i) ≡ is_sound (double geo) (view.inode i)
  same_sound i number = elim (cases_Bool (is_sound (single geo) (view.inode i))) [
    | inl sound ↦ sound ∙ sym (more_sound geo (view.inode i) sound)
    | inr not ↦ not ∙ sym (false_from_ne_true (is_sound (double geo) (view.inode i)) (λ sound. both_ways (is_sound (single geo) (view.inode i)) not (sound_if i number sound)))
  ]

  pub same_sound_at : (i : ℕ) → is_sound_at (single geo) view i ≡ is_sound_at (double geo) view i
  same_sound_at i = same_and (is_number geo i) (is_sound (single geo) (view.inode i)) (is_sound (double geo) (view.inode i)) (same_sound i)

  pub same_directory_at : (i : ℕ) → is_directory_at (single geo) view i ≡ is_directory_at (double geo) view i
  same_directory_at i = ap (λ b. b && is_directory (view.inode i)) (same_sound_at i)

  -- ---- uses
  pub use_there : (i k v : ℕ) → IsUse (single geo) view i k v → (l : ℕ) × IsUse (double geo) view i l v × IsMoved geo k l
  use_there i k v u =
      let r = use_number (single geo) view i k v u in
      let there = record_there geo view (view.inode i) (use_sound (single geo) view (view.inode i) k v r.1) k v r.1 in
      (there.0, number_use (double geo) view i there.0 v r.0 there.1, there.2)

  pub use_back : (i l v : ℕ) → IsUse (double geo) view i l v → (k : ℕ) × IsUse (single geo) view i k v × IsMoved geo k l
  use_back i l v u =
      let r = use_number (double geo) view i l v u in
      let back = record_back geo view (view.inode i) (sound_if i r.0 (use_sound (double geo) view (view.inode i) l v r.1)) l v r.1 in
      (back.0, number_use (single geo) view i back.0 v r.0 back.1, back.2)

  pub claimed_there : (a : ℕ) → IsClaimed (single geo) view a → IsClaimed (double geo) view a
  claimed_there a c = let there = use_there c.0 c.1 a c.2.0 in (c.0, there.0, (there.1, c.2.1))

  pub claimed_back : (a : ℕ) → IsClaimed (double geo) view a → IsClaimed (single geo) view a
  claimed_back a c = let back = use_back c.0 c.1 a c.2.0 in (c.0, back.0, (back.1, c.2.1))

  -- below the blocks of version 1 the positions are the same ones
  both_none : (o p : Option ℕ) → ((v : ℕ) → o ≡ Some v → p ≡ Some v) → ((v : ℕ) → p ≡ Some v → o ≡ Some v) → o ≡ p
  both_none (Some v) p there back = sym (there v refl)
  both_none None None there back = refl
  both_none None (Some v) there back = back v refl

  pub same_use : (i k : ℕ) → k < 268 → use_at (single geo) view i k ≡ use_at (double geo) view i k
  same_use i k low = both_none (use_at (single geo) view i k) (use_at (double geo) view i k) there back
    where
      there : (v : ℕ) → IsUse (single geo) view i k v → IsUse (double geo) view i k v
      there v u = let r = use_there i k v u in elim r.2 [
        | Same few is ↦ subst (λ l. IsUse (double geo) view i l v) is r.1
        | Last at is ↦ absurd (omega (arith, single_most geo))
      ]

      back : (v : ℕ) → IsUse (double geo) view i k v → IsUse (single geo) view i k v
      back v u = let r = use_back i k v u in elim r.2 [
        | Same few is ↦ subst (λ l. IsUse (single geo) view i l v) (sym is) r.1
        | Last at is ↦ absurd (omega (arith, double_most geo))
      ]

  -- between them and the tables of version 2 nothing is used
  pub none_between : (i k : ℕ) → 268 ≤ k → k < most_blocks (double geo) → use_at (double geo) view i k ≡ None
  none_between i k from low = go (use_at (double geo) view i k) refl
    where
      go : (o : Option ℕ) → use_at (double geo) view i k ≡ o → use_at (double geo) view i k ≡ None
      go None e = e
      go (Some v) e = let r = use_back i k v e in elim r.2 [
        | Same few is ↦ absurd (omega arith)
        | Last at is ↦ absurd (omega arith)
      ]

  -- ---- slots
  slot_here : (d s : ℕ) → s / 16 < 268 → IsTrue (is_directory_at (single geo) view d) → (o : Option ℕ) → use_at (single geo) view d (s / 16) ≡ o → slot (single geo) view d s ≡ slot (double geo) view d s
  slot_here d s low directory None e = slot_absent (single geo) view d s e ∙ sym (slot_absent (double geo) view d s (sym (same_use d (s / 16) low) ∙ e))
  slot_here d s low directory (Some a) e =
      let address = rules.rule3.claims d (s / 16) a e in
      let wide : s / 16 < most_blocks (double geo) = omega (arith, low, double_most geo) in
      slot_claimed (single geo) view d s a directory (omega (arith, low, single_most geo)) (e, address)
      ∙ sym (slot_claimed (double geo) view d s a (sym (same_directory_at d) ∙ directory) wide (sym (same_use d (s / 16) low) ∙ e, address))

  slot_beyond : (d s : ℕ) → 268 ≤ s / 16 → slot (double geo) view d s ≡ Absent
  slot_beyond d s far = elim (cases_lt (s / 16) (most_blocks (double geo))) [
    | inl low ↦ slot_absent (double geo) view d s (none_between d (s / 16) far low)
    | inr past ↦ past_absent (double geo) view d s past
  ]

  pub same_slot : (d s : ℕ) → slot (single geo) view d s ≡ slot (double geo) view d s
  same_slot d s = elim (cases_lt (s / 16) 268) [
    | inl low ↦ elim (cases_Bool (is_directory_at (single geo) view d)) [
      | inl directory ↦ slot_here d s low directory (use_at (single geo) view d (s / 16)) refl
      | inr none ↦ no_directory_absent (single geo) view d s none ∙ sym (no_directory_absent (double geo) view d s (sym (same_directory_at d) ∙ none))
    ]
    | inr far ↦ past_absent (single geo) view d s (omega (arith, far, single_most geo)) ∙ sym (slot_beyond d s far)
  ]

  -- ---- what is counted and looked for over all slots
  more_slots : slot_count (single geo) ≤ slot_count (double geo)
  more_slots = omega (arith, single_most geo, double_most geo)

  beyond : (d s : ℕ) → slot_count (single geo) ≤ s → slot (double geo) view d s ≡ Absent
  beyond d s far = slot_beyond d s (omega (arith, far, single_most geo))

  same_entries_in : (i d : ℕ) → 1 ≤ i → entries_in (single geo) view i d ≡ entries_in (double geo) view i d
  same_entries_in i d some =
      sum-same (slot_count (single geo)) (names_once (single geo) view i d) (names_once (double geo) view i d) (λ s b. ap (λ x. cond (eqb (number_in x) i) 1 0) (same_slot d s))
      ∙ sym (sum_beyond (slot_count (single geo)) (slot_count (double geo)) (names_once (double geo) view i d) more_slots (λ s far.
      ap (λ x. cond (eqb (number_in x) i) 1 0) (beyond d s far) ∙ ap (λ b. cond b 1 0) (ne_eqb 0 i (λ e. omega (arith, some, e)))))

  pub same_entries : (set : ℕ → Bool) (i : ℕ) → 1 ≤ i → entries_of (single geo) view set i ≡ entries_of (double geo) view set i
  same_entries set i some =
      sum-same (inode_count geo) (λ d. cond (set d) (entries_in (single geo) view i d) 0) (λ d. cond (set d) (entries_in (double geo) view i d) 0)
      (λ d b. ap (λ n. cond (set d) n 0) (same_entries_in i d some))

  same_slot_of : (d : ℕ) (name : List ℕ) → slot_of (single geo) view d name ≡ slot_of (double geo) view d name
  unfolding slot_of
  same_slot_of d name =
      first_same (slot_count (single geo)) (λ s. has_name (slot (single geo) view d s) name) (λ s. has_name (slot (double geo) view d s) name) (λ s. ap (λ x. has_name x name) (same_slot d s))
      ∙ sym (first_beyond (slot_count (single geo)) (slot_count (double geo)) (λ s. has_name (slot (double geo) view d s) name) more_slots (λ s far. ap (λ x. has_name x name) (beyond d s far)))

  pub same_lookup : (d : ℕ) (name : List ℕ) → lookup (single geo) view d name ≡ lookup (double geo) view d name
  unfolding lookup
  same_lookup d name = option_same (slot_of (single geo) view d name) ∙ ap (option_map (λ s. number_in (slot (double geo) view d s))) (same_slot_of d name)
    where
      option_same : (o : Option ℕ) → option_map (λ s. number_in (slot (single geo) view d s)) o ≡ option_map (λ s. number_in (slot (double geo) view d s)) o
      option_same None = refl
      option_same (Some s) = ap (λ x. Some (number_in x)) (same_slot d s)
