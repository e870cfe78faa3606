-- What a table tells of the reachable directories, and their entries.
use Rattle.std.proofs.Common.{◌≡◌, ◌<◌, ◌≤◌, ℕ, zero, suc, Bool, true, false, cond, leb, eqb, ◌||◌, List, [], ◌∷◌, ◌++◌, length, Option, Some, None, IsSome, Contains, ◌⊎◌, inl, inr, refl, sym, ap, ◌∙◌, subst, arith, IsTrue, get_or}
use Rattle.std.specs.Option.{option_map_or}
use Rattle.std.proofs.lemmas.Bool.{and_from, and_parts, cases_Bool, cases_eq, cases_lt, eq-eqb, eqb-true, false≢true, le-leb, or_cases, or_left, or_right}
use Rattle.std.proofs.lemmas.Cmp.{nat_cmp_total}
use Rattle.std.proofs.lemmas.List.{append-nil, map-append}
use Rattle.std.proofs.lemmas.List.Elements.{Contains-append_left, Contains-append_right, Contains-append_cases}
use Rattle.std.proofs.lemmas.Map.Lookups.{exact_unsigned}
use Rattle.std.proofs.lemmas.Map.Views.{btree_set_contains_iff}
use Rattle.std.proofs.lemmas.Option.{none-some}
use Rattle.findings.proofs.Sorted.{Contains-here, Contains-none}
use Rattle.model.specs.Layout.{Geometry, IsGeometry, inode_count, root}
use Rattle.model.specs.View.{View}
use Rattle.model.specs.Uses.{is_directory_at}
use Rattle.model.specs.Slots.{slot, number_in, Names}
use Rattle.directories.specs.Pieces.{HasEveryNumber, Numbers, is_directory_among}
use Rattle.model.specs.Tables.{value_in}
use Rattle.model.specs.Reach.{IsEntry, IsReachableDirectory, slot_count}
use Rattle.model.specs.Reached.{AreReached}
use Rattle.model.proofs.ReachLemmas.{directory_reached}
use Rattle.model.proofs.SlotLemmas.{directory_number, names_from_number, names_stands, number_from_names, number_low, number_below, reachable_directory}
use Rattle.phase_names.specs.declared.look.Naming.{Naming}
use Rattle.phase_names.specs.declared.entries.Entry.{Entry}
use Rattle.sets.specs.Members.{is_among}
use Rattle.phase_names.specs.Entries.{entries_at, entries_below, entries_from, parent_in, told_by}
use Rattle.phase_names.specs.Told.{IsPart, IsTold, Told, naming_of, namings_below}
use Rattle.phase_names.proofs.EntryLemmas.{AreInOrder, Contains_mapped, EntryBefore, in_order_both, in_order_few, mapped_Contains}
use Rattle.phase_names.proofs.StepLemmas.{more_entries_below, no_entries_below}

module _ (numbers : List ℕ) where
  pub among : (i : ℕ) → Contains numbers i → is_among numbers i ≡ true
  among i c = (btree_set_contains_iff nat_cmp_total exact_unsigned (record { keys = numbers }) i).1 c

  pub there : (i : ℕ) → is_among numbers i ≡ true → Contains numbers i
  there i t = (btree_set_contains_iff nat_cmp_total exact_unsigned (record { keys = numbers }) i).0 t

-- ---- the slots of one directory that name the root or a sound directory
module _ (geo : Geometry) (view : View) where
  -- the root, or a sound directory
  abbrev pub IsTarget : ℕ → Type 0
  IsTarget i = (i ≡ root) ⊎ IsTrue (is_directory_at geo view i)

  target_low : (i : ℕ) → IsTarget i → 1 ≤ i
  target_low i (inl e) = omega (arith, e)
  target_low i (inr t) = let low = number_low geo i (directory_number geo view i t) in omega arith

  is_target : ℕ → Bool
  is_target i = eqb i root || is_directory_at geo view i

  target_true : (i : ℕ) → IsTarget i → IsTrue (is_target i)
  unfolding is_target
  target_true i (inl e) = or_left (eqb i root) (is_directory_at geo view i) (eq-eqb i root e)
  target_true i (inr t) = or_right (eqb i root) (is_directory_at geo view i) t

  true_target : (i : ℕ) → IsTrue (is_target i) → IsTarget i
  unfolding is_target
  true_target i t = elim (or_cases (eqb i root) (is_directory_at geo view i) t) [ inl e ↦ inl (eqb-true i root e) | inr d ↦ inr d ]

  naming_from : (s i : ℕ) (x : Naming) → Contains (naming_of geo view s i) x → (x.slot ≡ s) × (x.inode ≡ i) × IsTarget i
  unfolding is_target
  naming_from s i x h = elim (cases_Bool (is_target i)) [
    | inl t ↦ (let c : Contains (record { slot = s; inode = i } ∷ []) x = subst (λ b. Contains (cond b (record { slot = s; inode = i } ∷ []) []) x) t h in
        let is = only (record { slot = s; inode = i }) c.0 c.1 c.2 in
        (ap (λ (n : Naming). n.slot) (sym is), ap (λ (n : Naming). n.inode) (sym is), true_target i t))
    | inr f ↦ absurd (Contains-none x (subst (λ b. Contains (cond b (record { slot = s; inode = i } ∷ []) []) x) f h))
  ]
    where
      only : (y : Naming) (k : ℕ) → k < 1 → get_or (y ∷ []) k x ≡ x → y ≡ x
      only y zero lt is = is
      only y (suc k) lt is = absurd (omega (arith, lt))

  from_naming : (s i : ℕ) → IsTarget i → Contains (naming_of geo view s i) (record { slot = s; inode = i })
  unfolding is_target
  from_naming s i t =
      let x : Naming = record { slot = s; inode = i } in
      subst (λ b. Contains (cond b (x ∷ []) []) x) (sym (target_true i t)) (Contains-here x [])

  module _ (d : ℕ) where
    pub namings_none : namings_below geo view d 0 ≡ []
    unfolding namings_below
    namings_none = refl

    pub namings_more : (s : ℕ) → 2 ≤ s → namings_below geo view d (suc s) ≡ namings_below geo view d s ++ naming_of geo view s (number_in (slot geo view d s))
    unfolding namings_below
    namings_more s from = ap (λ b. namings_below geo view d s ++ cond b (naming_of geo view s (number_in (slot geo view d s))) []) (le-leb 2 s from)

    pub namings_before : (s : ℕ) → s < 2 → namings_below geo view d (suc s) ≡ namings_below geo view d s
    unfolding namings_below
    namings_before s low =
        ap (λ b. namings_below geo view d s ++ cond b (naming_of geo view s (number_in (slot geo view d s))) []) (not_le s low) ∙ append-nil (namings_below geo view d s)
      where
        not_le : (s : ℕ) → s < 2 → leb 2 s ≡ false
        not_le zero low = refl
        not_le (suc zero) low = refl
        not_le (suc (suc s)) low = absurd (omega (arith, low))

    -- slot s from 2 on is good and names the root or a sound directory
    pub record IsNaming (x : Naming) : Type 0 where
      pub after_dots : 2 ≤ x.slot
      pub names : Names geo view d x.slot x.inode
      pub target : IsTarget x.inode

    pub namings_are : (n : ℕ) (x : Naming) → Contains (namings_below geo view d n) x → IsNaming x × (x.slot < n)
    namings_are zero x h = absurd (Contains-none x (subst (λ xs. Contains xs x) namings_none h))
    namings_are (suc n) x h = elim (cases_lt n 2) [
      | inl low ↦ (let k = namings_are n x (subst (λ xs. Contains xs x) (namings_before n low) h) in (k.0, omega (arith, k.1)))
      | inr from ↦ elim (Contains-append_cases (namings_below geo view d n) (naming_of geo view n (number_in (slot geo view d n))) x (subst (λ xs. Contains xs x) (namings_more n from) h)) [
        | inl c ↦ (let k = namings_are n x c in (k.0, omega (arith, k.1)))
        | inr c ↦ (let k = naming_from n (number_in (slot geo view d n)) x c in
            let target : IsTarget x.inode = subst (λ i. IsTarget i) (sym k.1) k.2 in (
              record {
                after_dots = omega (arith, k.0, from);
                names = subst (λ s. Names geo view d s x.inode) (sym k.0) (names_from_number geo view d n x.inode (target_low x.inode target) (sym k.1));
                target = target;
              },
              omega (arith, k.0),
            ))
      ]
    ]

    pub are_namings : (n s i : ℕ) → s < n → 2 ≤ s → Names geo view d s i → IsTarget i → Contains (namings_below geo view d n) (record { slot = s; inode = i })
    are_namings zero s i low from names target = absurd (omega (arith, low))
    are_namings (suc n) s i low from names target = elim (cases_eq s n) [
      | inl e ↦ subst (λ xs. Contains xs (record { slot = s; inode = i })) (sym (namings_more n (omega (arith, from, e))))
          (Contains-append_right (namings_below geo view d n) (naming_of geo view n (number_in (slot geo view d n))) (record { slot = s; inode = i })
          (subst (λ q. Contains (naming_of geo view q (number_in (slot geo view d q))) (record { slot = s; inode = i })) e
          (subst (λ j. Contains (naming_of geo view s j) (record { slot = s; inode = i })) (sym (number_from_names geo view d s i names)) (from_naming s i target))))
      | inr apart ↦ (let below : s < n = omega (arith, low, apart) in
          subst (λ xs. Contains xs (record { slot = s; inode = i })) (sym (namings_more n (omega (arith, from, below))))
          (Contains-append_left (namings_below geo view d n) (naming_of geo view n (number_in (slot geo view d n))) (record { slot = s; inode = i }) (are_namings n s i below from names target)))
    ]

    few_entries : (s i : ℕ) → length (entries_from d (naming_of geo view s i)) ≤ 1
    unfolding is_target
    few_entries s i = go (is_target i)
      where
        go : (b : Bool) → length (entries_from d (cond b (record { slot = s; inode = i } ∷ []) [])) ≤ 1
        go true = omega arith
        go false = omega arith

    -- as entries, they are in order
    pub namings_in_order : (n : ℕ) → AreInOrder (entries_from d (namings_below geo view d n))
    namings_in_order zero = subst (λ xs. AreInOrder (entries_from d xs)) (sym namings_none) (in_order_few [] (omega arith))
    namings_in_order (suc n) = elim (cases_lt n 2) [
      | inl low ↦ subst (λ xs. AreInOrder (entries_from d xs)) (sym (namings_before n low)) (namings_in_order n)
      | inr from ↦ (let last = naming_of geo view n (number_in (slot geo view d n)) in
          subst (λ xs. AreInOrder xs) (sym (ap (entries_from d) (namings_more n from)
          ∙ map-append (λ (naming : Naming). record { directory = d; slot = naming.slot; inode = naming.inode }) (namings_below geo view d n) last))
          (in_order_both (entries_from d (namings_below geo view d n)) (entries_from d last) (namings_in_order n)
          (in_order_few (entries_from d last) (few_entries n (number_in (slot geo view d n)))) (across n)))
    ]
      where
        across : (n : ℕ) (e f : Entry) → Contains (entries_from d (namings_below geo view d n)) e → Contains (entries_from d (naming_of geo view n (number_in (slot geo view d n)))) f → EntryBefore e f
        across n e f c g =
            let x = mapped_Contains (λ (naming : Naming). record { directory = d; slot = naming.slot; inode = naming.inode }) (namings_below geo view d n) e c in
            let y = mapped_Contains (λ (naming : Naming). record { directory = d; slot = naming.slot; inode = naming.inode }) (naming_of geo view n (number_in (slot geo view d n))) f g in
            let low = (namings_are n x.0 x.1).1 in
            let last = (naming_from n (number_in (slot geo view d n)) y.0 y.1).0 in
            let first_slot : x.0.slot ≡ e.slot = ap (λ (z : Entry). z.slot) x.2 in
            let second_slot : y.0.slot ≡ f.slot = ap (λ (z : Entry). z.slot) y.2 in
            let first : d ≡ e.directory = ap (λ (z : Entry). z.directory) x.2 in
            let second : d ≡ f.directory = ap (λ (z : Entry). z.directory) y.2 in
            inr (sym first ∙ second, omega (arith, low, last, first_slot, second_slot))

-- ---- the whole table
module _ (geo : Geometry) (ok : IsGeometry geo) (view : View) (numbers : Numbers) (table : List (ℕ × Told)) (part : IsPart geo view numbers table) (every : HasEveryNumber geo numbers) where
  told_there : (d : ℕ) → IsTrue (is_directory_at geo view d) → (told : Told) × (value_in table d ≡ Some told) × IsTold geo view d told
  told_there d t = go (value_in table d) refl
    where
      in_table : IsTrue (is_directory_among geo view numbers d)
      in_table = and_from (is_directory_at geo view d) (numbers d) t (every d (directory_number geo view d t))

      go : (o : Option Told) → value_in table d ≡ o → (told : Told) × (value_in table d ≡ Some told) × IsTold geo view d told
      go None e = absurd (false≢true (subst (λ o. IsSome o) e (part.all d in_table)))
      go (Some told) e = (told, e, (part.each d told e).1)

  told_directory : (d : ℕ) (told : Told) → value_in table d ≡ Some told → IsTrue (is_directory_at geo view d)
  told_directory d told e = (and_parts (is_directory_at geo view d) (numbers d) (part.each d told e).0).0

  -- the parent that the table tells is the one that slot 1 names
  pub parent_names : (d e : ℕ) → 1 ≤ e → parent_in table d ≡ e → Names geo view d 1 e
  parent_names d e some is = go (value_in table d) refl
    where
      go : (o : Option Told) → value_in table d ≡ o → Names geo view d 1 e
      go None none = absurd (let zero_is : 0 ≡ e = sym (ap (λ o. option_map_or (λ (told : Told). told.parent) o 0) none) ∙ is in omega (arith, zero_is, some))
      go (Some told) found =
          let parent : told.parent ≡ e = sym (ap (λ o. option_map_or (λ (told : Told). told.parent) o 0) found) ∙ is in
          names_from_number geo view d 1 e some (sym (part.each d told found).1.parent ∙ parent)

  pub names_parent : (d e : ℕ) → IsTrue (is_directory_at geo view d) → Names geo view d 1 e → parent_in table d ≡ e
  names_parent d e t names =
      let told = told_there d t in
      ap (λ o. option_map_or (λ (told : Told). told.parent) o 0) told.1 ∙ told.2.parent ∙ number_from_names geo view d 1 e names

  module _ (reached : List ℕ) (are : AreReached geo view reached) where
    -- what is told of the reached directories is told of the reachable ones
    pub told_reached : (d : ℕ) (told : Told) → told_by table reached d ≡ Some told → IsReachableDirectory geo view d × IsTold geo view d told
    told_reached d told e = elim (cases_Bool (is_among reached d)) [
      | inl t ↦ (let found : value_in table d ≡ Some told = sym (ap (λ b. cond b (value_in table d) None) t) ∙ e in
          (directory_reached geo view d ((are.exactly d).0 (there reached d t)) (told_directory d told found), (part.each d told found).1))
      | inr f ↦ absurd (none-some told (sym (ap (λ b. cond b (value_in table d) None) f) ∙ e))
    ]

    pub reached_told : (d : ℕ) → IsReachableDirectory geo view d → (told : Told) × (told_by table reached d ≡ Some told) × IsTold geo view d told
    reached_told d r =
        let told = told_there d (reachable_directory geo view d r) in
        (told.0, ap (λ b. cond b (value_in table d) None) (among reached d ((are.exactly d).1 (inl r))) ∙ told.1, told.2)

    pub reached_below : (d : ℕ) → IsReachableDirectory geo view d → d < inode_count geo
    reached_below d r = number_below geo d (directory_number geo view d (reachable_directory geo view d r))

    -- ---- the entries
    entries_told : (d : ℕ) (told : Told) → told_by table reached d ≡ Some told → entries_at table reached d ≡ entries_from d (namings_below geo view d (slot_count geo))
    entries_told d told e =
        ap (λ o. option_map_or (λ (told : Told). entries_from d told.directories) o []) e ∙ ap (entries_from d) (told_reached d told e).1.directories

    entries_untold : (d : ℕ) → told_by table reached d ≡ None → entries_at table reached d ≡ []
    entries_untold d e = ap (λ o. option_map_or (λ (told : Told). entries_from d told.directories) o []) e

    -- e is an entry that names the root or a sound directory
    pub record IsTargeted (e : Entry) : Type 0 where
      pub is_entry : IsEntry geo view e.directory e.slot e.inode
      pub target : IsTarget geo view e.inode

    entry_at : (d : ℕ) (o : Option Told) → told_by table reached d ≡ o → (e : Entry) → Contains (entries_at table reached d) e → IsTargeted e × (e.directory ≡ d)
    entry_at d None none e c = absurd (Contains-none e (subst (λ xs. Contains xs e) (entries_untold d none) c))
    entry_at d (Some told) is e c =
        let x = mapped_Contains (λ (naming : Naming). record { directory = d; slot = naming.slot; inode = naming.inode }) (namings_below geo view d (slot_count geo)) e
        (subst (λ xs. Contains xs e) (entries_told d told is) c) in
        let naming = (namings_are geo view d (slot_count geo) x.0 x.1).0 in
        let targeted : IsTargeted (record { directory = d; slot = x.0.slot; inode = x.0.inode }) = record {
          is_entry = record { reachable = (told_reached d told is).0; after_dots = naming.after_dots; names = naming.names };
          target = naming.target;
        } in
        (subst (λ z. IsTargeted z) x.2 targeted, sym (ap (λ (z : Entry). z.directory) x.2))

    pub entries_are : (n : ℕ) (e : Entry) → Contains (entries_below table reached n) e → IsTargeted e × (e.directory < n)
    entries_are zero e c = absurd (Contains-none e (subst (λ xs. Contains xs e) (no_entries_below table reached) c))
    entries_are (suc n) e c = elim (Contains-append_cases (entries_below table reached n) (entries_at table reached n) e (subst (λ xs. Contains xs e) (more_entries_below table reached n) c)) [
      | inl k ↦ (let h = entries_are n e k in (h.0, omega (arith, h.1)))
      | inr k ↦ (let h = entry_at n (told_by table reached n) refl e k in (h.0, omega (arith, h.1)))
    ]

    are_entries_at : (d s i : ℕ) → IsEntry geo view d s i → IsTarget geo view i → Contains (entries_at table reached d) (record { directory = d; slot = s; inode = i })
    are_entries_at d s i entry target =
        let told = reached_told d entry.reachable in
        subst (λ xs. Contains xs (record { directory = d; slot = s; inode = i })) (sym (entries_told d told.0 told.1))
        (Contains_mapped (λ (naming : Naming). record { directory = d; slot = naming.slot; inode = naming.inode }) (namings_below geo view d (slot_count geo)) (record { slot = s; inode = i })
        (are_namings geo view d (slot_count geo) s i (names_stands geo view d s i entry.names).place.below entry.after_dots entry.names target))

    pub are_entries : (n d s i : ℕ) → d < n → IsEntry geo view d s i → IsTarget geo view i → Contains (entries_below table reached n) (record { directory = d; slot = s; inode = i })
    are_entries zero d s i low entry target = absurd (omega (arith, low))
    are_entries (suc n) d s i low entry target =
        subst (λ xs. Contains xs (record { directory = d; slot = s; inode = i })) (sym (more_entries_below table reached n)) (elim (cases_eq d n) [
          | inl e ↦ Contains-append_right (entries_below table reached n) (entries_at table reached n) (record { directory = d; slot = s; inode = i })
              (subst (λ q. Contains (entries_at table reached q) (record { directory = d; slot = s; inode = i })) e (are_entries_at d s i entry target))
          | inr apart ↦ Contains-append_left (entries_below table reached n) (entries_at table reached n) (record { directory = d; slot = s; inode = i })
              (are_entries n d s i (omega (arith, low, apart)) entry target)
        ])

    pub entries_in_order : (n : ℕ) → AreInOrder (entries_below table reached n)
    entries_in_order zero = subst (λ xs. AreInOrder xs) (sym (no_entries_below table reached)) (in_order_few [] (omega arith))
    entries_in_order (suc n) =
        subst (λ xs. AreInOrder xs) (sym (more_entries_below table reached n))
        (in_order_both (entries_below table reached n) (entries_at table reached n) (entries_in_order n) (here (told_by table reached n) refl)
        (λ e f c k. let low = (entries_are n e c).1 in let last = (entry_at n (told_by table reached n) refl f k).1 in inl (omega (arith, low, last))))
      where
        here : (o : Option Told) → told_by table reached n ≡ o → AreInOrder (entries_at table reached n)
        here None none = subst (λ xs. AreInOrder xs) (sym (entries_untold n none)) (in_order_few [] (omega arith))
        here (Some told) is = subst (λ xs. AreInOrder xs) (sym (entries_told n told is)) (namings_in_order geo view n (slot_count geo))
