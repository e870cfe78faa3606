-- A walk over the slots of a directory, one slot after another, and what it has at the end.
use Rattle.std.proofs.Common.{◌≡◌, ◌<◌, ◌≤◌, ◌+◌, ◌-◌, ℕ, zero, suc, Bool, true, false, ◌&&◌, List, [], ◌++◌, Contains, inl, inr, refl, sym, ap, ◌∙◌, subst, arith, IsTrue, IsFalse, add-zero, add-suc}
use Rattle.std.specs.List.Sorted.{IsStrictlySortedBy}
use Rattle.std.proofs.lemmas.Bool.{cases_eq, cases_lt}
use Rattle.std.proofs.lemmas.List.{append-nil}
use Rattle.findings.specs.declared.finding.Finding.{Finding}
use Rattle.findings.specs.declared.finding.Finding.TheVariants.{BadSlot, DupName, BadDot, ToUnsound}
use Rattle.findings.specs.Findings.{finding_cmp}
use Rattle.findings.proofs.Sorted.{Contains-none}
use Rattle.model.specs.Growth.{Adds}
use Rattle.model.specs.Layout.{Geometry, is_number}
use Rattle.model.specs.View.{View}
use Rattle.model.specs.Shape.{most_blocks}
use Rattle.model.specs.Uses.{blocks_of, is_directory_at, is_sound, is_sound_at}
use Rattle.model.specs.Slots.{Slot, Absent, Empty, Good, Bad, slot, number_in}
use Rattle.model.specs.Reach.{slot_count}
use Rattle.model.proofs.SlotLemmas.{directory_sound, names_stands}
use Rattle.model.proofs.Uses.{sound_few}
use Rattle.phase_names.specs.Told.{IsLocal, IsTold, Told, naming_of, namings_below}
use Rattle.phase_names.specs.Walks.{IsBadDot, IsFoundBelow, IsFoundInSlot, IsNameAt, IsRepeated, IsToUnsound, IsWalked, Walked, keyed}
use Rattle.phase_names.proofs.ReachedLemmas.{namings_before, namings_more, namings_none}

module _ (geo : Geometry) (view : View) (d : ℕ) where
  abbrev pub Walk : ℕ → Walked → Type 0
  Walk n walk = IsWalked geo view d n walk

  -- before the first slot
  pub walked_none : (walk : Walked) → walk.names ≡ [] → IsStrictlySortedBy finding_cmp walk.findings → Adds (IsBadDot geo view d) [] walk.findings → walk.directories ≡ [] → Walk 0 walk
  walked_none walk no_names sorted dot no_directories = record {
    names = λ x. ((λ c. absurd (Contains-none x (subst (λ xs. Contains xs x) no_names c))), (λ h. absurd (omega (arith, h.1))));
    in_order = sorted;
    findings = λ f. (
      (λ c. elim ((dot f).0 c) [ inl none ↦ absurd (Contains-none f none) | inr h ↦ inl h ]),
      (λ h. elim h [ inl b ↦ (dot f).1 (inr b) | inr k ↦ absurd (omega (arith, k.1)) ]),
    );
    directories = no_directories ∙ sym (namings_none geo view d);
  }

  -- one slot more
  walked_more : (s : ℕ) (old new : Walked) → Adds (IsNameAt geo view d s) old.names new.names → IsStrictlySortedBy finding_cmp new.findings
      → Adds (IsFoundInSlot geo view d s) old.findings new.findings → new.directories ≡ namings_below geo view d (suc s) → Walk s old → Walk (s + 1) new
  walked_more s old new names sorted findings directories h = record {
    names = λ x. (
      (λ c. elim ((names x).0 c) [
        | inl k ↦ (let b = (h.names x).0 k in (b.0, omega (arith, b.1), b.2))
        | inr p ↦ (s, omega arith, p)
      ]),
      (λ b. elim (cases_eq b.0 s) [
        | inl e ↦ (names x).1 (inr (subst (λ t. IsNameAt geo view d t x) e b.2))
        | inr apart ↦ (names x).1 (inl ((h.names x).1 (b.0, omega (arith, b.1, apart), b.2)))
      ]),
    );
    in_order = sorted;
    findings = λ f. (
      (λ c. elim ((findings f).0 c) [
        | inl k ↦ elim ((h.findings f).0 k) [ inl dot ↦ inl dot | inr b ↦ inr (b.0, omega (arith, b.1), b.2) ]
        | inr p ↦ inr (s, omega arith, p)
      ]),
      (λ g. elim g [
        | inl dot ↦ (findings f).1 (inl ((h.findings f).1 (inl dot)))
        | inr b ↦ elim (cases_eq b.0 s) [
          | inl e ↦ (findings f).1 (inr (subst (λ t. IsFoundInSlot geo view d t f) e b.2))
          | inr apart ↦ (findings f).1 (inl ((h.findings f).1 (inr (b.0, omega (arith, b.1, apart), b.2))))
        ]
      ]),
    );
    directories = directories ∙ ap (namings_below geo view d) next;
  }
    where
      next : suc s ≡ s + 1
      next = omega arith

  -- ---- a slot of which nothing is added
  nothing_added : {K : Type 0} (P : K → Type 0) (old : List K) → ((x : K) → P x → ⊥) → Adds P old old
  nothing_added P old none x = ((λ c. inl c), (λ h. elim h [ inl c ↦ c | inr p ↦ absurd (none x p) ]))

  not_good : (s i : ℕ) (name : List ℕ) → number_in (slot geo view d s) ≡ 0 → slot geo view d s ≡ Good i name → ⊥
  not_good s i name none e =
      let low = (names_stands geo view d s i (name, e)).number in
      let zero_is : i ≡ 0 = ap number_in (sym e) ∙ none in
      let bad : is_number geo 0 ≡ true = subst (λ n. IsTrue (is_number geo n)) zero_is low in cc

  no_name : (s : ℕ) → number_in (slot geo view d s) ≡ 0 → (x : ℕ × List ℕ) → IsNameAt geo view d s x → ⊥
  no_name s none x h = not_good s h.0 h.1 none h.3

  no_naming : (s : ℕ) → number_in (slot geo view d s) ≡ 0 → namings_below geo view d (suc s) ≡ namings_below geo view d s
  no_naming s none = elim (cases_lt s 2) [
    | inl low ↦ namings_before geo view d s low
    | inr from ↦ namings_more geo view d s from ∙ ap (λ i. namings_below geo view d s ++ naming_of geo view s i) none ∙ append-nil (namings_below geo view d s)
  ]

  no_finding : (s : ℕ) → number_in (slot geo view d s) ≡ 0 → (slot geo view d s ≡ Bad → ⊥) → (f : Finding) → IsFoundInSlot geo view d s f → ⊥
  no_finding s none not_bad f h = elim h.1 [
    | inl b ↦ not_bad b.0
    | inr k ↦ elim k [
      | inl r ↦ not_good s r.0.1 r.0.3 none r.0.7
      | inr u ↦ not_good s u.0.0 u.0.1.0 none u.0.1.1
    ]
  ]

  -- one of the dots
  pub walked_dot : (s : ℕ) (walk : Walked) → s < 2 → Walk s walk → Walk (s + 1) walk
  walked_dot s walk low h =
      walked_more s walk walk (nothing_added (IsNameAt geo view d s) walk.names (λ x n. omega (arith, low, n.2))) h.in_order
      (nothing_added (IsFoundInSlot geo view d s) walk.findings (λ f n. omega (arith, low, n.0))) (h.directories ∙ sym (namings_before geo view d s low)) h

  pub walked_nothing : (s : ℕ) (walk : Walked) → number_in (slot geo view d s) ≡ 0 → (slot geo view d s ≡ Bad → ⊥) → Walk s walk → Walk (s + 1) walk
  walked_nothing s walk none not_bad h =
      walked_more s walk walk (nothing_added (IsNameAt geo view d s) walk.names (no_name s none)) h.in_order
      (nothing_added (IsFoundInSlot geo view d s) walk.findings (no_finding s none not_bad)) (h.directories ∙ sym (no_naming s none)) h

  pub walked_empty : (s : ℕ) (walk : Walked) → slot geo view d s ≡ Empty → Walk s walk → Walk (s + 1) walk
  walked_empty s walk e h = walked_nothing s walk (ap number_in e) (λ b. let bad : Empty ≡ Bad = sym e ∙ b in cc) h

  walked_absent : (s : ℕ) (walk : Walked) → slot geo view d s ≡ Absent → Walk s walk → Walk (s + 1) walk
  walked_absent s walk e h = walked_nothing s walk (ap number_in e) (λ b. let bad : Absent ≡ Bad = sym e ∙ b in cc) h

  -- slots that are left out
  pub walked_all_absent : (s more : ℕ) (walk : Walked) → ((q : ℕ) → s ≤ q → q < s + more → slot geo view d q ≡ Absent) → Walk s walk → Walk (s + more) walk
  walked_all_absent s zero walk absent h = subst (λ n. Walk n walk) (sym (add-zero s)) h
  walked_all_absent s (suc more) walk absent h =
      subst (λ n. Walk n walk) next (walked_absent (s + more) walk (absent (s + more) (omega arith) (omega arith)) (walked_all_absent s more walk (λ q from low. absent q from (omega (arith, low))) h))
    where
      next : s + more + 1 ≡ s + suc more
      next = omega arith

  -- ---- a bad slot
  pub walked_bad : (s : ℕ) (old new : Walked) → 2 ≤ s → slot geo view d s ≡ Bad → new.names ≡ old.names → new.directories ≡ old.directories → IsStrictlySortedBy finding_cmp new.findings
      → Adds (λ f. BadSlot d s ≡ f) old.findings new.findings → Walk s old → Walk (s + 1) new
  walked_bad s old new from bad names directories sorted added h =
      let none : number_in (slot geo view d s) ≡ 0 = ap number_in bad in
      walked_more s old new
      (subst (λ xs. Adds (IsNameAt geo view d s) old.names xs) (sym names) (nothing_added (IsNameAt geo view d s) old.names (no_name s none))) sorted
      (λ f. (
        (λ c. elim ((added f).0 c) [ inl k ↦ inl k | inr e ↦ inr (from, inl (bad, e)) ]),
        (λ g. elim g [
          | inl k ↦ (added f).1 (inl k)
          | inr p ↦ elim p.1 [
            | inl b ↦ (added f).1 (inr b.1)
            | inr k ↦ elim k [
              | inl r ↦ absurd (not_good s r.0.1 r.0.3 none r.0.7)
              | inr u ↦ absurd (not_good s u.0.0 u.0.1.0 none u.0.1.1)
            ]
          ]
        ]),
      )) (directories ∙ h.directories ∙ sym (no_naming s none)) h

  -- ---- an entry
  module _ (s i : ℕ) (name : List ℕ) (from : 2 ≤ s) (good : slot geo view d s ≡ Good i name) where
    same_slot : (j : ℕ) (other : List ℕ) → slot geo view d s ≡ Good j other → (i ≡ j) × (name ≡ other)
    same_slot j other e = let both : Good i name ≡ Good j other = sym good ∙ e in (cc, cc)

    name_at : (old new : List (ℕ × List ℕ)) → Adds (λ x. keyed name ≡ x) old new → Adds (IsNameAt geo view d s) old new
    name_at old new added x = (
      (λ c. elim ((added x).0 c) [ inl k ↦ inl k | inr e ↦ inr (i, name, from, good, e) ]),
      (λ g. elim g [
        | inl k ↦ (added x).1 (inl k)
        | inr n ↦ (added x).1 (inr (ap keyed (same_slot n.0 n.1 n.3).1 ∙ n.4))
      ]),
    )

    -- a name that is there already is that of an earlier slot
    repeated_from : (walk : Walked) → Walk s walk → Contains walk.names (keyed name) → IsRepeated geo view d s
    repeated_from walk h c =
        let at = (h.names (keyed name)).0 c in
        let n = at.2 in
        let same : n.1 ≡ name = ap (λ (k : ℕ × List ℕ). k.1) n.4 in
        (at.0, i, n.0, name, n.2, at.1, n.3 ∙ ap (Good n.0) same, good)

    from_repeated : (walk : Walked) → Walk s walk → IsRepeated geo view d s → Contains walk.names (keyed name)
    from_repeated walk h r =
        let same = (same_slot r.1 r.3 r.7).1 in
        (h.names (keyed name)).1 (r.0, r.5, (r.2, name, r.4, r.6 ∙ ap (Good r.2) (sym same), refl))

    to_unsound : IsFalse (is_sound_at geo view i) → IsToUnsound geo view d s
    to_unsound f = (i, (name, good), sound_false (is_number geo i) (is_sound geo (view.inode i)) (names_stands geo view d s i (name, good)).number f)
      where
        sound_false : (a b : Bool) → a ≡ true → (a && b) ≡ false → b ≡ false
        sound_false true b t e = e
        sound_false false b t e = cc

    not_sound : IsToUnsound geo view d s → IsFalse (is_sound_at geo view i)
    not_sound u = and_false (is_number geo i) (is_sound geo (view.inode i)) (subst (λ j. IsFalse (is_sound geo (view.inode j))) (sym (same_slot u.0 u.1.0 u.1.1).0) u.2)
      where
        and_false : (a b : Bool) → b ≡ false → (a && b) ≡ false
        and_false true b e = e
        and_false false b e = refl

    not_bad_slot : slot geo view d s ≡ Bad → ⊥
    not_bad_slot b = let bad : Good i name ≡ Bad = sym good ∙ b in cc

    pub walked_entry : (old new : Walked) (mid : List Finding) → Adds (λ x. keyed name ≡ x) old.names new.names
        → Adds (λ f. Contains old.names (keyed name) × (DupName d s ≡ f)) old.findings mid → Adds (λ f. IsFalse (is_sound_at geo view i) × (ToUnsound d s ≡ f)) mid new.findings
        → IsStrictlySortedBy finding_cmp new.findings → new.directories ≡ old.directories ++ naming_of geo view s i → Walk s old → Walk (s + 1) new
    walked_entry old new mid names first then sorted directories h =
        walked_more s old new (name_at old.names new.names names) sorted
        (λ f. (
          (λ c. elim ((then f).0 c) [
            | inl k ↦ elim ((first f).0 k) [ inl o ↦ inl o | inr r ↦ inr (from, inr (inl (repeated_from old h r.0, r.1))) ]
            | inr u ↦ inr (from, inr (inr (to_unsound u.0, u.1)))
          ]),
          (λ g. elim g [
            | inl k ↦ (then f).1 (inl ((first f).1 (inl k)))
            | inr p ↦ elim p.1 [
              | inl b ↦ absurd (not_bad_slot b.0)
              | inr k ↦ elim k [
                | inl r ↦ (then f).1 (inl ((first f).1 (inr (from_repeated old h r.0, r.1))))
                | inr u ↦ (then f).1 (inr (not_sound u.0, u.1))
              ]
            ]
          ]),
        ))
        (directories ∙ ap (λ xs. xs ++ naming_of geo view s i) h.directories ∙ ap (λ j. namings_below geo view d s ++ naming_of geo view s j) (sym (ap number_in good)) ∙ sym (namings_more geo view d s from)) h

  -- ---- the end
  module _ (n : ℕ) (past : (q : ℕ) → n ≤ q → slot geo view d q ≡ Absent) where
    stands_below : (s : ℕ) (x : Slot) → (Absent ≡ x → ⊥) → slot geo view d s ≡ x → s < n
    stands_below s x present e = elim (cases_lt s n) [
      | inl low ↦ low
      | inr from ↦ absurd (present (sym (past s from) ∙ e))
    ]

    local_from : (f : Finding) → IsFoundBelow geo view d n f → IsLocal geo view d f
    local_from f (inl dot) = subst (λ g. IsLocal geo view d g) dot.1 (refl, dot.0)
    local_from f (inr h) = elim h.2.1 [
      | inl b ↦ subst (λ g. IsLocal geo view d g) b.1 (refl, h.2.0, b.0)
      | inr k ↦ elim k [
        | inl r ↦ subst (λ g. IsLocal geo view d g) r.1 (refl, r.0.0, r.0.1, r.0.2, r.0.3, r.0.4, r.0.5, r.0.6, r.0.7)
        | inr u ↦ subst (λ g. IsLocal geo view d g) u.1 (refl, u.0.0, h.2.0, u.0.1, u.0.2)
      ]
    ]

    from_local : (f : Finding) → IsLocal geo view d f → IsFoundBelow geo view d n f
    from_local (BadSlot e s) h = inr (s, stands_below s Bad (λ b. cc) h.2, (h.1, inl (h.2, ap (λ q. BadSlot q s) (sym h.0))))
    from_local (DupName e s) h =
        let repeated : IsRepeated geo view d s = (h.1, h.2, h.3, h.4, h.5, h.6, h.7, h.8) in
        inr (s, stands_below s (Good h.2 h.4) (λ b. cc) h.8, (after h.1 h.5 h.6, inr (inl (repeated, ap (λ q. DupName q s) (sym h.0)))))
      where
        after : (t : ℕ) → 2 ≤ t → t < s → 2 ≤ s
        after t p q = omega (arith, p, q)
    from_local (BadDot e) h = inl (h.1, ap BadDot (sym h.0))
    from_local (ToUnsound e s) h = inr (s, stands_below s (Good h.1 h.3.0) (λ b. cc) h.3.1, (h.2, inr (inr ((h.1, h.3, h.4), ap (λ q. ToUnsound q s) (sym h.0)))))
    from_local _ h = absurd h

    namings_past : (more : ℕ) → namings_below geo view d (n + more) ≡ namings_below geo view d n
    namings_past zero = ap (namings_below geo view d) (add-zero n)
    namings_past (suc more) = ap (namings_below geo view d) (add-suc n more) ∙ no_naming (n + more) (ap number_in (past (n + more) (omega arith))) ∙ namings_past more

    pub walked_told : (walk : Walked) (told : Told) → n ≤ slot_count geo → told.findings ≡ walk.findings → told.parent ≡ number_in (slot geo view d 1) → told.directories ≡ walk.directories
        → Walk n walk → IsTold geo view d told
    walked_told walk told low findings parent directories h = record {
      in_order = subst (λ fs. IsStrictlySortedBy finding_cmp fs) (sym findings) h.in_order;
      findings = λ f. (
        (λ c. local_from f ((h.findings f).0 (subst (λ fs. Contains fs f) findings c))),
        (λ l. subst (λ fs. Contains fs f) (sym findings) ((h.findings f).1 (from_local f l))),
      );
      parent = parent;
      directories = directories ∙ h.directories ∙ sym (namings_past (slot_count geo - n)) ∙ ap (namings_below geo view d) all;
    }
      where
        all : n + (slot_count geo - n) ≡ slot_count geo
        all = omega (arith, low)

-- a sound directory has no more blocks than there are positions for slots
pub few_blocks : (geo : Geometry) (view : View) (d : ℕ) → IsTrue (is_directory_at geo view d) → blocks_of (view.inode d).size ≤ most_blocks geo
few_blocks geo view d t = sound_few geo (view.inode d) (directory_sound geo view d t)
