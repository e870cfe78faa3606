-- How the walks over entries and over directories go on, one step at a time.
use Rattle.std.proofs.Common.{◌≡◌, ◌<◌, ◌+◌, ℕ, suc, Bool, true, false, not, List, [], ◌∷◌, ◌++◌, take, length, get_or, Some, None, Contains, inl, inr, ◌↔◌, refl, sym, ap, ◌∙◌, subst, arith, IsFalse}
use Rattle.std.specs.BTreeSet.{BTreeSet, Updates, contains}
use Rattle.std.specs.Option.{option_map_or}
use Rattle.std.specs.Ordering.{nat_cmp}
use Rattle.std.proofs.lemmas.Bool.{both_ways, cases_Bool}
use Rattle.std.proofs.lemmas.Cmp.{nat_cmp_total}
use Rattle.std.proofs.lemmas.List.{append-nil}
use Rattle.std.proofs.lemmas.Map.Lookups.{exact_unsigned}
use Rattle.std.proofs.lemmas.Map.Views.{btree_set_contains_iff}
use Rattle.std.proofs.lemmas.Option.{none-some, same_Some}
use Rattle.findings.specs.declared.finding.Finding.{Finding}
use Rattle.findings.specs.declared.finding.Finding.TheVariants.{BadDotDot, ExtraName}
use Rattle.model.specs.Growth.{Adds}
use Rattle.model.proofs.Adding.{adds_below_more, adds_insert, adds_nothing, adds_same}
use Rattle.phase_names.specs.declared.look.Naming.{Naming}
use Rattle.phase_names.specs.declared.entries.Entry.{Entry}
use Rattle.phase_names.specs.Entries.{AtBelow, StandsAt, IsExtraAt, IsFoundAlone, IsHeldAt, IsWithoutParent, entries_at, entries_below, entries_from, has_parent, inodes_of, parent_in, told_by}
use Rattle.phase_names.specs.Told.{Told}
use Rattle.phase_names.proofs.AddLemmas.{adds_pushed, adds_unless, adds_when}
use Rattle.phase_names.proofs.EntryLemmas.{IsExtra, extra_here, held_here, inodes_more, same_get}

-- the entry at a place before the end
abbrev pub entry_in : List Entry → ℕ → Entry
entry_in entries k = get_or entries k (record { directory = 0; slot = 0; inode = 0 })

pub stands_in_entries : (entries : List Entry) (k : ℕ) → k < length entries → StandsAt entries k (entry_in entries k)
stands_in_entries entries k low = (low, same_get entries k (entry_in entries k) (record { directory = 0; slot = 0; inode = 0 }) low)

module _ (entries : List Entry) where
  -- the inodes that were seen
  abbrev pub AreSeen : ℕ → List ℕ → Type 0
  AreSeen k seen = (i : ℕ) → Contains seen i ↔ Contains (inodes_of (take k entries)) i

  pub seen_next : (k : ℕ) (old new : BTreeSet ℕ) → k < length entries → Updates nat_cmp old new (entry_in entries k).inode true → AreSeen k old.keys → AreSeen (k + 1) new.keys
  seen_next k old new low updates seen i =
      let e = entry_in entries k in
      let added = adds_insert nat_cmp_total exact_unsigned old new e.inode updates i in
      let more = inodes_more entries k e (stands_in_entries entries k low) i in (
        (λ c. more.1 (elim (added.0 c) [ inl k ↦ inl ((seen i).0 k) | inr is ↦ inr is ])),
        (λ c. added.1 (elim (more.0 c) [ inl k ↦ inl ((seen i).1 k) | inr is ↦ inr is ])),
      )

  pub extra_next : (k : ℕ) (fs mid new : List Finding) → k < length entries → IsExtra entries k (entry_in entries k)
      → new ≡ mid ++ ExtraName (entry_in entries k).directory (entry_in entries k).slot ∷ [] → Adds (AtBelow (IsExtraAt entries) k) fs mid → Adds (AtBelow (IsExtraAt entries) (k + 1)) fs new
  extra_next k fs mid new low extra e before =
      let entry = entry_in entries k in
      adds_below_more (IsExtraAt entries) k fs mid new before
      (extra_here entries k entry (stands_in_entries entries k low) mid new
      (adds_when (IsExtra entries k entry) (ExtraName entry.directory entry.slot) mid new extra (adds_pushed (ExtraName entry.directory entry.slot) mid new e)))

  pub no_extra_next : (k : ℕ) (fs mid new : List Finding) → k < length entries → (IsExtra entries k (entry_in entries k) → ⊥)
      → new ≡ mid → Adds (AtBelow (IsExtraAt entries) k) fs mid → Adds (AtBelow (IsExtraAt entries) (k + 1)) fs new
  no_extra_next k fs mid new low none e before =
      let entry = entry_in entries k in
      adds_below_more (IsExtraAt entries) k fs mid new before
      (extra_here entries k entry (stands_in_entries entries k low) mid new (adds_unless (IsExtra entries k entry) (ExtraName entry.directory entry.slot) mid new none e))

  -- whether an inode was seen before
  pub was_seen : (k i : ℕ) (seen : BTreeSet ℕ) (is_first : Bool) → is_first ≡ not (contains nat_cmp seen i) → AreSeen k seen.keys → is_first ≡ false → Contains (inodes_of (take k entries)) i
  was_seen k i seen is_first e are f = elim (cases_Bool (contains nat_cmp seen i)) [
    | inl t ↦ (are i).0 ((btree_set_contains_iff nat_cmp_total exact_unsigned seen i).0 t)
    | inr n ↦ absurd (let bad : true ≡ false = sym (ap not n) ∙ sym e ∙ f in cc)
  ]

  pub was_not_seen : (k i : ℕ) (seen : BTreeSet ℕ) (is_first : Bool) → is_first ≡ not (contains nat_cmp seen i) → AreSeen k seen.keys → is_first ≡ true → Contains (inodes_of (take k entries)) i → ⊥
  was_not_seen k i seen is_first e are t c =
      let yes = (btree_set_contains_iff nat_cmp_total exact_unsigned seen i).1 ((are i).1 c) in
      let bad : true ≡ false = sym t ∙ e ∙ ap not yes in cc

  module _ (table : List (ℕ × Told)) where
    pub held_next : (k : ℕ) (old new : BTreeSet ℕ) → k < length entries → parent_in table (entry_in entries k).inode ≡ (entry_in entries k).directory
        → Updates nat_cmp old new (entry_in entries k).inode true → Adds (AtBelow (IsHeldAt table entries) k) [] old.keys → Adds (AtBelow (IsHeldAt table entries) (k + 1)) [] new.keys
    held_next k old new low parent updates before =
        let entry = entry_in entries k in
        adds_below_more (IsHeldAt table entries) k [] old.keys new.keys before
        (held_here table entries k entry (stands_in_entries entries k low) old.keys new.keys
        (adds_when (parent_in table entry.inode ≡ entry.directory) entry.inode old.keys new.keys parent (adds_insert nat_cmp_total exact_unsigned old new entry.inode updates)))

    pub not_held_next : (k : ℕ) (old new : List ℕ) → k < length entries → (parent_in table (entry_in entries k).inode ≡ (entry_in entries k).directory → ⊥)
        → new ≡ old → Adds (AtBelow (IsHeldAt table entries) k) [] old → Adds (AtBelow (IsHeldAt table entries) (k + 1)) [] new
    not_held_next k old new low none e before =
        let entry = entry_in entries k in
        adds_below_more (IsHeldAt table entries) k [] old new before
        (held_here table entries k entry (stands_in_entries entries k low) old new (adds_unless (parent_in table entry.inode ≡ entry.directory) entry.inode old new none e))

module _ (table : List (ℕ × Told)) (reached : List ℕ) where
  pub no_entries_below : entries_below table reached 0 ≡ []
  unfolding entries_below
  no_entries_below = refl

  pub more_entries_below : (d : ℕ) → entries_below table reached (suc d) ≡ entries_below table reached d ++ entries_at table reached d
  unfolding entries_below
  more_entries_below d = refl

  pub entries_next : (d : ℕ) (told : Told) (namings : List Naming) (mid new : List Entry) → told_by table reached d ≡ Some told → namings ≡ told.directories
      → mid ≡ entries_below table reached d → new ≡ mid ++ entries_from d namings → new ≡ entries_below table reached (d + 1)
  entries_next d told namings mid new is same before e =
      e ∙ ap (λ xs. xs ++ entries_from d namings) before
      ∙ ap (λ xs. entries_below table reached d ++ xs) (ap (entries_from d) same ∙ sym (ap (λ o. option_map_or (λ (told : Told). entries_from d told.directories) o []) is))
      ∙ sym (more_entries_below d) ∙ ap (entries_below table reached) next
    where
      next : suc d ≡ d + 1
      next = omega arith

  pub no_entries_next : (d : ℕ) (mid new : List Entry) → told_by table reached d ≡ None → mid ≡ entries_below table reached d → new ≡ mid → new ≡ entries_below table reached (d + 1)
  no_entries_next d mid new none before e =
      e ∙ before ∙ sym (append-nil (entries_below table reached d))
      ∙ ap (λ xs. entries_below table reached d ++ xs) (sym (ap (λ o. option_map_or (λ (told : Told). entries_from d told.directories) o []) none))
      ∙ sym (more_entries_below d) ∙ ap (entries_below table reached) next
    where
      next : suc d ≡ d + 1
      next = omega arith

  -- ---- each directory alone
  pub alone_next : (d : ℕ) (told : Told) (findings fs mid new : List Finding) → told_by table reached d ≡ Some told → findings ≡ told.findings
      → Adds (AtBelow (IsFoundAlone table reached) d) fs mid → Adds (Contains findings) mid new → Adds (AtBelow (IsFoundAlone table reached) (d + 1)) fs new
  alone_next d told findings fs mid new is same before adds =
      adds_below_more (IsFoundAlone table reached) d fs mid new before
      (adds_same (Contains findings) (IsFoundAlone table reached d) mid new
      (λ f. (
        (λ c. (told, is, subst (λ xs. Contains xs f) same c)),
        (λ h. let one : h.0 ≡ told = same_Some h.0 told (sym h.1 ∙ is) in
            subst (λ xs. Contains xs f) (sym same) (subst (λ (t : Told). Contains t.findings f) one h.2)),
      )) adds)

  pub none_alone_next : (d : ℕ) (fs mid new : List Finding) → told_by table reached d ≡ None → new ≡ mid
      → Adds (AtBelow (IsFoundAlone table reached) d) fs mid → Adds (AtBelow (IsFoundAlone table reached) (d + 1)) fs new
  none_alone_next d fs mid new none e before =
      adds_below_more (IsFoundAlone table reached) d fs mid new before
      (subst (λ xs. Adds (IsFoundAlone table reached d) mid xs) (sym e) (adds_nothing (IsFoundAlone table reached d) mid (λ f h. none-some h.0 (sym none ∙ h.1))))

  module _ (held : List ℕ) where
    abbrev pub Without : ℕ → Finding → Type 0
    Without d f = IsWithoutParent table reached held d f

    without_here : (d : ℕ) (told : Told) (old new : List Finding) → told_by table reached d ≡ Some told
        → Adds (λ f. IsFalse (has_parent held d told.parent) × (BadDotDot d ≡ f)) old new → Adds (Without d) old new
    without_here d told old new is adds =
        adds_same (λ f. IsFalse (has_parent held d told.parent) × (BadDotDot d ≡ f)) (Without d) old new
        (λ f. (
          (λ h. (told, is, h.0, h.1)),
          (λ h. let one : h.0 ≡ told = same_Some h.0 told (sym h.1 ∙ is) in
              (subst (λ (t : Told). IsFalse (has_parent held d t.parent)) one h.2, h.3)),
        )) adds

    pub without_next : (d : ℕ) (told : Told) (fs mid new : List Finding) → told_by table reached d ≡ Some told → IsFalse (has_parent held d told.parent)
        → new ≡ mid ++ BadDotDot d ∷ [] → Adds (AtBelow Without d) fs mid → Adds (AtBelow Without (d + 1)) fs new
    without_next d told fs mid new is no_parent e before =
        adds_below_more Without d fs mid new before
        (without_here d told mid new is (adds_when (IsFalse (has_parent held d told.parent)) (BadDotDot d) mid new no_parent (adds_pushed (BadDotDot d) mid new e)))

    pub with_next : (d : ℕ) (told : Told) (fs mid new : List Finding) → told_by table reached d ≡ Some told → has_parent held d told.parent ≡ true
        → new ≡ mid → Adds (AtBelow Without d) fs mid → Adds (AtBelow Without (d + 1)) fs new
    with_next d told fs mid new is parent e before =
        adds_below_more Without d fs mid new before
        (without_here d told mid new is (adds_unless (IsFalse (has_parent held d told.parent)) (BadDotDot d) mid new (λ f. both_ways (has_parent held d told.parent) f parent) e))

    pub none_without_next : (d : ℕ) (fs mid new : List Finding) → told_by table reached d ≡ None → new ≡ mid
        → Adds (AtBelow Without d) fs mid → Adds (AtBelow Without (d + 1)) fs new
    none_without_next d fs mid new none e before =
        adds_below_more Without d fs mid new before
        (subst (λ xs. Adds (Without d) mid xs) (sym e) (adds_nothing (Without d) mid (λ f h. none-some h.0 (sym none ∙ h.1))))
