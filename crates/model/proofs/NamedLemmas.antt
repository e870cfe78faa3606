-- What the slots of a directory name: slot after slot, past its last block, and as a set.
use Rattle.std.proofs.Common.{◌≡◌, ◌<◌, ◌≤◌, ◌+◌, ◌*◌, ◌/◌, ℕ, zero, suc, Bool, true, false, cond, ◌&&◌, ltb, leb, [], ◌∷◌, ◌++◌, Option, Some, None, Contains, inl, inr, ◌↔◌, refl, sym, ap, ◌∙◌, subst, arith, IsFalse, get_or, ◌-◌, add-zero, add-suc}
use Rattle.std.specs.Option.{option_map_or}
use Rattle.std.proofs.lemmas.Bool.{cases_lt, cases_eq, le-leb}
use Rattle.std.proofs.lemmas.Bool.Decides.{nat_tests}
use Rattle.std.proofs.lemmas.List.{append-nil}
use Rattle.std.proofs.lemmas.List.Elements.{Contains-append_left, Contains-append_right, Contains-append_cases}
use Rattle.model.specs.Layout.{Geometry}
use Rattle.model.specs.View.{View}
use Rattle.model.specs.Shape.{most_blocks}
use Rattle.model.specs.Uses.{is_directory_at, claim_at, blocks_of}
use Rattle.model.specs.Slots.{Slot, Absent, Empty, Good, Bad, slot, slot_in, Names}
use Rattle.model.specs.Reach.{slot_count}
use Rattle.model.specs.Named.{number_of, named_below, named_from}
use Rattle.model.proofs.SlotLemmas.{names_stands}
use Rattle.model.proofs.UseLemmas.{claim_parts}
use Rattle.model.proofs.Uses.{use_number, use_has, has_below}
use Rattle.model.proofs.Slots.{no_claim_no_slot}

-- ---- one slot
module _ (geo : Geometry) (view : View) (d : ℕ) where
  -- a number that is no sound directory's has no slots
  pub no_directory_no_slot : (s : ℕ) → IsFalse (is_directory_at geo view d) → slot geo view d s ≡ Absent
  unfolding slot
  no_directory_no_slot s f =
      ap (λ b. cond (b && ltb (s / 16) (most_blocks geo)) (option_map_or (λ a. slot_in geo (view.bytes a) s) (claim_at geo view d (s / 16)) Absent) Absent) f

  -- nor has a directory slots past the blocks that it may have
  pub too_far_no_slot : (s : ℕ) → IsFalse (ltb (s / 16) (most_blocks geo)) → slot geo view d s ≡ Absent
  unfolding slot
  too_far_no_slot s f =
      no_slot (is_directory_at geo view d) f
    where
      no_slot : (b : Bool) → IsFalse (ltb (s / 16) (most_blocks geo))
          → cond (b && ltb (s / 16) (most_blocks geo)) (option_map_or (λ a. slot_in geo (view.bytes a) s) (claim_at geo view d (s / 16)) Absent) Absent ≡ Absent
      no_slot true e = ap (λ b. cond b (option_map_or (λ a. slot_in geo (view.bytes a) s) (claim_at geo view d (s / 16)) Absent) Absent) e
      no_slot false e = refl

  no_claim_past : (k : ℕ) → k < most_blocks geo → blocks_of (view.inode d).size ≤ k → claim_at geo view d k ≡ None
  no_claim_past k low past = go (claim_at geo view d k) refl
    where
      go : (o : Option ℕ) → claim_at geo view d k ≡ o → o ≡ None
      go None e = refl
      go (Some a) e =
          let u = use_number geo view d k a (claim_parts geo view d k a e).0 in
          absurd (omega (arith, past, has_below geo (view.inode d) k low (use_has geo view (view.inode d) k a u.1)))

  -- there are no slots past the blocks of a directory
  pub no_slot_past : (s : ℕ) → 16 * blocks_of (view.inode d).size ≤ s → slot geo view d s ≡ Absent
  no_slot_past s past = elim (cases_lt (s / 16) (most_blocks geo)) [
    | inl low ↦ no_claim_no_slot geo view d s (no_claim_past (s / 16) low (omega arith))
    | inr far ↦ too_far_no_slot s (lt_false far)
  ]
    where
      lt_false : most_blocks geo ≤ s / 16 → IsFalse (ltb (s / 16) (most_blocks geo))
      lt_false far = grind (arith, nat_tests)

  module _ (first : ℕ) where
    -- ---- slot after slot
    pub named_none : named_below geo view first d 0 ≡ []
    unfolding named_below
    named_none = refl

    pub named_before : (s : ℕ) → s < first → named_below geo view first d (suc s) ≡ named_below geo view first d s
    unfolding named_below
    named_before s before =
        let no : leb first s ≡ false = grind (arith, nat_tests) in
        ap (λ b. named_below geo view first d s ++ cond b (number_of (slot geo view d s)) []) no ∙ append-nil (named_below geo view first d s)

    pub named_more : (s : ℕ) → first ≤ s → named_below geo view first d (suc s) ≡ named_below geo view first d s ++ number_of (slot geo view d s)
    unfolding named_below
    named_more s from =
        let yes : leb first s ≡ true = le-leb first s from in
        ap (λ b. named_below geo view first d s ++ cond b (number_of (slot geo view d s)) []) yes

    -- a slot that is left out names nothing
    pub named_absent : (s : ℕ) → slot geo view d s ≡ Absent → named_below geo view first d (suc s) ≡ named_below geo view first d s
    named_absent s absent = elim (cases_lt s first) [
      | inl before ↦ named_before s before
      | inr from ↦ named_more s from ∙ ap (λ x. named_below geo view first d s ++ number_of x) absent ∙ append-nil (named_below geo view first d s)
    ]

    -- and so do any more of them
    pub named_all_absent : (s more : ℕ) → ((q : ℕ) → s ≤ q → slot geo view d q ≡ Absent) → named_below geo view first d (s + more) ≡ named_below geo view first d s
    named_all_absent s zero absent = ap (named_below geo view first d) (add-zero s)
    named_all_absent s (suc more) absent = ap (named_below geo view first d) (add-suc s more) ∙ named_absent (s + more) (absent (s + more) (omega arith)) ∙ named_all_absent s more absent

    pub named_whole : (s : ℕ) → s ≤ slot_count geo → ((q : ℕ) → s ≤ q → slot geo view d q ≡ Absent) → named_below geo view first d s ≡ named_from geo view first d
    named_whole s low absent =
        let all : s + (slot_count geo - s) ≡ slot_count geo = omega arith in
        sym (named_all_absent s (slot_count geo - s) absent) ∙ ap (named_below geo view first d) all

    -- ---- as a set
    number_names : (s i : ℕ) (x : Slot) → slot geo view d s ≡ x → Contains (number_of x) i → Names geo view d s i
    number_names s i Absent e h = absurd (omega (arith, h.1))
    number_names s i Empty e h = absurd (omega (arith, h.1))
    number_names s i Bad e h = absurd (omega (arith, h.1))
    number_names s i (Good number name) e h = (name, e ∙ ap (λ n. Good n name) (only h.0 h.1 h.2))
      where
        only : (k : ℕ) → k < 1 → get_or (number ∷ []) k i ≡ i → number ≡ i
        only zero lt is = is
        only (suc k) lt is = absurd (omega (arith, lt))

    pub named_below_names : (n i : ℕ) → Contains (named_below geo view first d n) i → (s : ℕ) × (first ≤ s) × Names geo view d s i
    named_below_names zero i h = absurd (omega (arith, (subst (λ xs. Contains xs i) named_none h).1))
    named_below_names (suc n) i h = elim (cases_lt n first) [
      | inl before ↦ named_below_names n i (subst (λ xs. Contains xs i) (named_before n before) h)
      | inr from ↦ elim (Contains-append_cases (named_below geo view first d n) (number_of (slot geo view d n)) i (subst (λ xs. Contains xs i) (named_more n from) h)) [
        | inl k ↦ named_below_names n i k
        | inr k ↦ (n, from, number_names n i (slot geo view d n) refl k)
      ]
    ]

    pub names_named_below : (n s i : ℕ) → s < n → first ≤ s → Names geo view d s i → Contains (named_below geo view first d n) i
    names_named_below zero s i low from h = absurd (omega (arith, low))
    names_named_below (suc n) s i low from h = elim (cases_lt n first) [
      | inl before ↦ absurd (omega (arith, low, from, before))
      | inr after ↦ subst (λ xs. Contains xs i) (sym (named_more n after)) (elim (cases_eq s n) [
        | inl e ↦ Contains-append_right (named_below geo view first d n) (number_of (slot geo view d n)) i
            (subst (λ q. Contains (number_of (slot geo view d q)) i) e (subst (λ x. Contains (number_of x) i) (sym h.1) (0, omega arith, refl)))
        | inr apart ↦ Contains-append_left (named_below geo view first d n) (number_of (slot geo view d n)) i (names_named_below n s i (omega (arith, low, apart)) from h)
      ])
    ]

    -- the numbers that some slot from the first on names
    pub named_are_names : (i : ℕ) → Contains (named_from geo view first d) i ↔ ((s : ℕ) × (first ≤ s) × Names geo view d s i)
    named_are_names i = (
      named_below_names (slot_count geo) i,
      (λ h. names_named_below (slot_count geo) h.0 i (names_stands geo view d h.0 i h.2).place.below h.1 h.2),
    )
