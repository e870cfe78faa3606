-- What is found of the reachable directories together.
use Rattle.std.proofs.Common.{◌≡◌, ◌<◌, ℕ, true, cond, eqb, List, [], length, take, Contains, ◌⊎◌, inl, inr, ◌↔◌, refl, sym, ap, ◌∙◌, subst, arith, IsTrue}
use Rattle.std.specs.List.Sorted.{IsStrictlySortedBy}
use Rattle.std.proofs.lemmas.Bool.{both_ways, cases_Bool, cases_eq, eq-eqb, eqb-true, ne_eqb}
use Rattle.findings.specs.declared.finding.Finding.{Finding}
use Rattle.findings.specs.declared.finding.Finding.TheVariants.{RootBad, BadSlot, DupName, BadDot, BadDotDot, ToUnsound, ExtraName}
use Rattle.findings.specs.Findings.{IsFinding, AreFindingsOf, finding_cmp, is_of_names}
use Rattle.findings.proofs.Sorted.{Contains-none}
use Rattle.model.specs.Growth.{Adds}
use Rattle.model.specs.Layout.{Geometry, IsGeometry, inode_count, root}
use Rattle.model.specs.View.{View}
use Rattle.model.specs.Uses.{is_directory_at}
use Rattle.model.specs.Slots.{Bad, slot}
use Rattle.directories.specs.Pieces.{HasEveryNumber, Numbers}
use Rattle.model.specs.Reach.{HasParent, IsEntry, IsReachableDirectory}
use Rattle.model.specs.Reached.{AreReached}
use Rattle.model.proofs.SlotLemmas.{directory_number, names_from_number, number_from_names, number_low, reachable_directory}
use Rattle.phase_names.specs.declared.entries.Entry.{Entry}
use Rattle.sets.specs.Members.{is_among}
use Rattle.phase_names.specs.Entries.{AtBelow, IsExtraAt, IsFoundAlone, IsHeldAt, IsRootBad, IsWithoutParent, StandsAt, entries_below, has_parent, parent_in}
use Rattle.phase_names.specs.Told.{IsLocal, IsPart, IsTold, Told}
use Rattle.phase_names.proofs.EntryLemmas.{Contains_mapped, EntryBefore, mapped_Contains, place_prefix, places_in_order, prefix_place}
use Rattle.phase_names.proofs.ReachedLemmas.{IsTarget, IsTargeted, among, are_entries, entries_are, entries_in_order, names_parent, parent_names, reached_below, reached_told, there, told_reached}

-- a finding of a reachable directory's slots alone
pub local_found : (geo : Geometry) (view : View) (d : ℕ) → IsReachableDirectory geo view d → (f : Finding) → IsLocal geo view d f → IsTrue (is_of_names f) × IsFinding geo view f
local_found geo view d r (BadSlot e s) h = (refl, (subst (λ q. IsReachableDirectory geo view q) (sym h.0) r, h.1, subst (λ q. slot geo view q s ≡ Bad) (sym h.0) h.2))
local_found geo view d r (DupName e s) h = (refl, subst (λ q. IsFinding geo view (DupName q s)) (sym h.0) (r, h.1, h.2, h.3, h.4, h.5, h.6, h.7, h.8))
local_found geo view d r (BadDot e) h = (refl, subst (λ q. IsFinding geo view (BadDot q)) (sym h.0) (r, h.1))
local_found geo view d r (ToUnsound e s) h = (refl, subst (λ q. IsFinding geo view (ToUnsound q s)) (sym h.0) (h.1, record { reachable = r; after_dots = h.2; names = h.3 }, h.4))
local_found geo view d r _ h = absurd h

module _ (geo : Geometry) (ok : IsGeometry geo) (view : View) (numbers : Numbers) (table : List (ℕ × Told)) (part : IsPart geo view numbers table) (every : HasEveryNumber geo numbers)
    (reached : List ℕ) (are : AreReached geo view reached) where
  abbrev pub entries : List Entry
  entries = entries_below table reached (inode_count geo)

  at_entry : (k : ℕ) (e : Entry) → StandsAt entries k e → IsTargeted geo ok view numbers table part every reached are e
  at_entry k e at = (entries_are geo ok view numbers table part every reached are (inode_count geo) e (k, at.0, at.1)).0

  entry_place : (d s i : ℕ) → IsEntry geo view d s i → IsTarget geo view i → (k : ℕ) × StandsAt entries k (record { directory = d; slot = s; inode = i })
  entry_place d s i entry target =
      let c = are_entries geo ok view numbers table part every reached are (inode_count geo) d s i (reached_below geo ok view numbers table part every reached are d entry.reachable) entry target in
      (c.0, (c.1, c.2))

  in_order : (k l : ℕ) (e f : Entry) → k < l → StandsAt entries k e → StandsAt entries l f → EntryBefore e f
  in_order = entries_in_order geo ok view numbers table part every reached are (inode_count geo)

  -- ---- of the slots of each alone
  alone_is : (n : ℕ) (f : Finding) → AtBelow (IsFoundAlone table reached) n f → IsTrue (is_of_names f) × IsFinding geo view f
  alone_is n f h =
      let d = h.0 in
      let told = told_reached geo ok view numbers table part every reached are d h.2.0 h.2.1 in
      local_found geo view d told.0 f ((told.1.findings f).0 h.2.2)

  is_alone : (d : ℕ) (f : Finding) → IsReachableDirectory geo view d → IsLocal geo view d f → AtBelow (IsFoundAlone table reached) (inode_count geo) f
  is_alone d f r local =
      let told = reached_told geo ok view numbers table part every reached are d r in
      (d, reached_below geo ok view numbers table part every reached are d r, (told.0, told.1, (told.2.findings f).1 local))

  -- ---- second names
  extra_is : (n : ℕ) (f : Finding) → AtBelow (IsExtraAt entries) n f → IsTrue (is_of_names f) × IsFinding geo view f
  extra_is n f h =
      let k = h.0 in
      let e = h.2.0 in
      let at = h.2.1 in
      let targeted = at_entry k e at in
      subst (λ g. IsTrue (is_of_names g) × IsFinding geo view g) h.2.3 (
        refl,
        (
          e.inode,
          targeted.is_entry,
          elim h.2.2 [
            | inl is_root ↦ inl is_root
            | inr named ↦ elim targeted.target [
              | inl is_root ↦ inl is_root
              | inr directory ↦
                  let x = mapped_Contains (λ (entry : Entry). entry.inode) (take k entries) e.inode named in
                  let place = prefix_place entries k x.0 x.1 in
                  let stands : StandsAt entries place.0 x.0 = (place.2, place.3) in
                  let earlier = (at_entry place.0 x.0 stands).is_entry in
                  inr (directory, x.0.directory, x.0.slot, subst (λ i. IsEntry geo view x.0.directory x.0.slot i) x.2 earlier, in_order place.0 k x.0 e place.1 stands at)
            ]
          ],
        ),
      )

  is_extra : (d s i : ℕ) → IsEntry geo view d s i → (i ≡ root) ⊎ (IsTrue (is_directory_at geo view i) × (e : ℕ) × (t : ℕ) × IsEntry geo view e t i × EntryBefore (record { directory = e; slot = t; inode = i }) (record { directory = d; slot = s; inode = i }))
      → AtBelow (IsExtraAt entries) (length entries) (ExtraName d s)
  is_extra d s i entry (inl is_root) =
      let place = entry_place d s i entry (inl is_root) in
      (place.0, place.1.0, (record { directory = d; slot = s; inode = i }, place.1, inl is_root, refl))
  is_extra d s i entry (inr h) =
      let place = entry_place d s i entry (inr h.0) in
      let first = entry_place h.1 h.2 i h.3 (inr h.0) in
      let this : Entry = record { directory = d; slot = s; inode = i } in
      let other : Entry = record { directory = h.1; slot = h.2; inode = i } in
      let before = places_in_order entries in_order first.0 place.0 other this first.1 place.1 h.4 in (
        place.0,
        place.1.0,
        (
          this,
          place.1,
          inr (Contains_mapped (λ (e : Entry). e.inode) (take place.0 entries) other (place_prefix entries place.0 first.0 other before first.1.0 first.1.1)),
          refl,
        ),
      )

  -- ---- parents
  module _ (held : List ℕ) (holds : Adds (AtBelow (IsHeldAt table entries) (length entries)) [] held) where
    root_parent : (d parent : ℕ) → d ≡ root → has_parent held d parent ≡ eqb parent root
    root_parent d parent e = ap (λ b. cond b (eqb parent root) (is_among held d)) (eq-eqb d root e)

    other_parent : (d parent : ℕ) → (d ≡ root → ⊥) → has_parent held d parent ≡ is_among held d
    other_parent d parent differs = ap (λ b. cond b (eqb parent root) (is_among held d)) (ne_eqb d root differs)

    parent_true : (d : ℕ) (told : Told) → IsReachableDirectory geo view d → IsTold geo view d told → HasParent geo view d → has_parent held d told.parent ≡ true
    parent_true d told r is (inl h) = root_parent d told.parent h.0 ∙ eq-eqb told.parent root (is.parent ∙ number_from_names geo view d 1 root h.1)
    parent_true d told r is (inr h) =
        let e = h.1 in
        let s = h.2 in
        let place = entry_place e s d h.4 (inr (reachable_directory geo view d r)) in
        let parent = names_parent geo ok view numbers table part every d e (reachable_directory geo view d r) h.3 in
        let held_at : AtBelow (IsHeldAt table entries) (length entries) d = (place.0, place.1.0, (record { directory = e; slot = s; inode = d }, place.1, parent, refl)) in
        other_parent d told.parent h.0 ∙ among held d ((holds d).1 (inr held_at))

    true_parent : (d : ℕ) (told : Told) → IsReachableDirectory geo view d → IsTold geo view d told → has_parent held d told.parent ≡ true → HasParent geo view d
    true_parent d told r is t = elim (cases_eq d root) [
      | inl e ↦ (let parent = eqb-true told.parent root (sym (root_parent d told.parent e) ∙ t) in
          inl (e, names_from_number geo view d 1 root (omega arith) (sym is.parent ∙ parent)))
      | inr differs ↦ elim ((holds d).0 (there held d (sym (other_parent d told.parent differs) ∙ t))) [
        | inl none ↦ absurd (Contains-none d none)
        | inr h ↦ (let e = h.2.0 in
            let entry = (at_entry h.0 e h.2.1).is_entry in
            let low = number_low geo e.directory (directory_number geo view e.directory (reachable_directory geo view e.directory entry.reachable)) in
            let parent : parent_in table d ≡ e.directory = subst (λ i. parent_in table i ≡ e.directory) h.2.3 h.2.2 in
            inr (differs, e.directory, e.slot, parent_names geo ok view numbers table part every d e.directory (omega arith) parent, subst (λ i. IsEntry geo view e.directory e.slot i) h.2.3 entry))
      ]
    ]

    without_is : (n : ℕ) (f : Finding) → AtBelow (IsWithoutParent table reached held) n f → IsTrue (is_of_names f) × IsFinding geo view f
    without_is n f h =
        let d = h.0 in
        let told = h.2.0 in
        let is = told_reached geo ok view numbers table part every reached are d told h.2.1 in
        subst (λ g. IsTrue (is_of_names g) × IsFinding geo view g) h.2.3
        (refl, (is.0, (λ parent. both_ways (has_parent held d told.parent) h.2.2 (parent_true d told is.0 is.1 parent))))

    is_without : (d : ℕ) → IsReachableDirectory geo view d → (HasParent geo view d → ⊥) → AtBelow (IsWithoutParent table reached held) (inode_count geo) (BadDotDot d)
    is_without d r none =
        let told = reached_told geo ok view numbers table part every reached are d r in (
          d,
          reached_below geo ok view numbers table part every reached are d r,
          (
            told.0,
            told.1,
            elim (cases_Bool (has_parent held d told.0.parent)) [
              | inl t ↦ absurd (none (true_parent d told.0 r told.2 t))
              | inr f ↦ f
            ],
            refl,
          ),
        )

    -- ---- all of them
    module _ (first alone extra found : List Finding) (at_root : Adds (IsRootBad geo view) [] first) (of_each : Adds (AtBelow (IsFoundAlone table reached) (inode_count geo)) first alone)
        (second : Adds (AtBelow (IsExtraAt entries) (length entries)) alone extra) (parents : Adds (AtBelow (IsWithoutParent table reached held) (inode_count geo)) extra found) where
      found_is : (f : Finding) → Contains found f → IsTrue (is_of_names f) × IsFinding geo view f
      found_is f c = elim ((parents f).0 c) [
        | inr h ↦ without_is (inode_count geo) f h
        | inl k ↦ elim ((second f).0 k) [
          | inr h ↦ extra_is (length entries) f h
          | inl m ↦ elim ((of_each f).0 m) [
            | inr h ↦ alone_is (inode_count geo) f h
            | inl n ↦ elim ((at_root f).0 n) [
              | inl none ↦ absurd (Contains-none f none)
              | inr h ↦ subst (λ g. IsTrue (is_of_names g) × IsFinding geo view g) h.1 (refl, h.0)
            ]
          ]
        ]
      ]

      from_alone : (f : Finding) → Contains alone f → Contains found f
      from_alone f c = (parents f).1 (inl ((second f).1 (inl c)))

      of_directory : (d : ℕ) (f : Finding) → IsReachableDirectory geo view d → IsLocal geo view d f → Contains found f
      of_directory d f r local = from_alone f ((of_each f).1 (inr (is_alone d f r local)))

      is_found : (f : Finding) → IsTrue (is_of_names f) → IsFinding geo view f → Contains found f
      is_found RootBad t h = from_alone RootBad ((of_each RootBad).1 (inl ((at_root RootBad).1 (inr (h, refl)))))
      is_found (BadSlot d s) t h = of_directory d (BadSlot d s) h.0 (refl, h.1, h.2)
      is_found (DupName d s) t h = of_directory d (DupName d s) h.0 (refl, h.1, h.2, h.3, h.4, h.5, h.6, h.7, h.8)
      is_found (BadDot d) t h = of_directory d (BadDot d) h.0 (refl, h.1)
      is_found (ToUnsound d s) t h = of_directory d (ToUnsound d s) h.1.reachable (refl, h.0, h.1.after_dots, h.1.names, h.2)
      is_found (ExtraName d s) t h = (parents (ExtraName d s)).1 (inl ((second (ExtraName d s)).1 (inr (is_extra d s h.0 h.1 h.2))))
      is_found (BadDotDot d) t h = (parents (BadDotDot d)).1 (inr (is_without d h.0 h.1))
      is_found _ t h = absurd cc

      pub all_found : (fs : List Finding) → IsStrictlySortedBy finding_cmp fs → ((f : Finding) → Contains fs f ↔ Contains found f) → AreFindingsOf is_of_names geo view fs
      all_found fs sorted same = record {
        in_order = sorted;
        exactly = λ f. ((λ c. found_is f ((same f).0 c)), (λ h. (same f).1 (is_found f h.0 h.1)));
      }
