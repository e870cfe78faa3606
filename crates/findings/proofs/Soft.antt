-- Each finding that is not soft breaks its rule, and each rule holds where no finding breaks it or one before it. So an image
-- obeys the rules exactly where all of its findings are soft.
use Rattle.std.proofs.Common.{◌≡◌, ◌≤◌, ℕ, zero, suc, Bool, true, false, ◌⊎◌, inl, inr, ◌↔◌, refl, sym, ◌∙◌, subst, arith, IsTrue}
use Rattle.std.proofs.lemmas.Bool.{cases_eq, cases_lt, cases_order, both_ways}
use Rattle.findings.specs.declared.finding.Finding.{Finding}
use Rattle.findings.specs.declared.finding.Finding.TheVariants.{BadInode, BadPointer, Duplicate, RootBad, BadSlot, DupName, BadDot, BadDotDot, ToUnsound, ExtraName, LostInode, CountHigh, CountLow, LostBlock, UnmarkedBlock, LostNumber, UnmarkedInode}
use Rattle.model.specs.Layout.{Geometry, is_data_address, root}
use Rattle.model.specs.View.{View}
use Rattle.model.specs.Uses.{is_directory_at, is_sound, Before}
use Rattle.model.specs.Slots.{Good, Bad, slot, number_in, Names}
use Rattle.model.specs.Reach.{IsReachableDirectory, IsEntry, IsReachableSet, HasParent, slot_count}
use Rattle.findings.specs.Findings.{IsFinding, AllSoft, is_soft}
use Rattle.findings.specs.Rules.{rule_of, NoneBreaksUpTo}
use Rattle.model.specs.Rules.{ObeysRules, Rule, RootIsDirectory, RecordsAreSound, UsesAreClaims, NumbersAreMarked, DotsAreRight, SlotsAreRight, DirectoriesHaveOneEntry, LinksCoverEntries}
use Rattle.model.proofs.Finite.{decide_names, reachable_set}
use Rattle.model.proofs.Decide.{Decided, both_decided, decided_along, decide_true, decide_le, decide_below}
use Rattle.model.proofs.SlotLemmas.{names_one, names_stands, directory_sound, reachable_directory, names_from_number, number_from_names, path_root, number_low, directory_number}

-- ---- a finding breaks its rule

not_before : (i k j l : ℕ) → i ≡ j → k ≡ l → Before j l i k → ⊥
not_before i k j l p q h = omega arith

pub breaks_rule : (geo : Geometry) (view : View) (f : Finding) → IsFinding geo view f → 1 ≤ rule_of f → Rule geo view (rule_of f) → ⊥
breaks_rule geo view (BadInode i) f hard rule = elim (rule i f.0) [ inl z ↦ f.1 z | inr s ↦ both_ways (is_sound geo (view.inode i)) f.2 s ]
breaks_rule geo view (BadPointer i k v) f hard rule = both_ways (is_data_address geo v) f.1 (rule.claims i k v f.0)
breaks_rule geo view (Duplicate i k a) f hard rule = let e = rule.once i k f.1 f.2 a f.0 f.3 in not_before i k f.1 f.2 e.0 e.1 f.4
breaks_rule geo view RootBad f hard rule = both_ways (is_directory_at geo view root) f rule
breaks_rule geo view (BadSlot d s) f hard rule = rule.none_bad d s f.0 f.2
breaks_rule geo view (DupName d s) f hard rule =
    let same = rule.distinct d s f.1 f.2 f.3 f.4 f.0 (omega (arith, f.5, f.6)) f.5 f.8 f.7 in omega (arith, same, f.6)
breaks_rule geo view (BadDot d) f hard rule = f.1 (rule d f.0).0
breaks_rule geo view (BadDotDot d) f hard rule = f.1 (rule d f.0).1
breaks_rule geo view (ToUnsound d s) f hard rule = both_ways (is_sound geo (view.inode f.0)) f.2 (rule.sound d s f.0 f.1.reachable f.1.names)
breaks_rule geo view (ExtraName d s) f hard rule =
    elim f.2 [
      | inl r ↦ rule.no_root d s (subst (λ i. IsEntry geo view d s i) r f.1)
      | inr h ↦ let e = rule.once d s h.1 h.2 f.0 h.0 f.1 h.3 in not_before d s h.1 h.2 e.0 e.1 h.4
    ]
breaks_rule geo view (LostInode i) f hard rule = omega (arith, hard)
breaks_rule geo view (CountHigh i l e) f hard rule = omega (arith, hard)
breaks_rule geo view (CountLow i l e) f hard rule = let enough = rule i e f.0 f.2 in omega (arith, enough, f.1, f.3)
breaks_rule geo view (LostBlock a) f hard rule = omega (arith, hard)
breaks_rule geo view (UnmarkedBlock a) f hard rule = both_ways (view.block_marked a) f.1 (rule.marked f.0.0 f.0.1 a f.0.2)
breaks_rule geo view (LostNumber i) f hard rule = omega (arith, hard)
breaks_rule geo view (UnmarkedInode i) f hard rule = both_ways (view.number_marked i) f.2 (rule i f.0 f.1)

-- ---- a rule holds without findings

true_unless : (b : Bool) → (b ≡ false → ⊥) → b ≡ true
true_unless true h = refl
true_unless false h = absurd (h refl)

pub same_or_before : (i k j l : ℕ) → ((i ≡ j) × (k ≡ l)) ⊎ (Before j l i k ⊎ Before i k j l)
same_or_before i k j l =
    elim (cases_order i j) [
      | inl e ↦ elim (cases_order k l) [ inl f ↦ inl (e, f) | inr c ↦ elim c [ inl b ↦ inr (inr (inr (e, b))) | inr b ↦ inr (inl (inr (sym e, b))) ] ]
      | inr c ↦ elim c [ inl b ↦ inr (inr (inl b)) | inr b ↦ inr (inl (inl b)) ]
    ]

pub low_reachable : (geo : Geometry) (view : View) (d : ℕ) → IsReachableDirectory geo view d → 1 ≤ d
low_reachable geo view d r = omega (arith, number_low geo d (directory_number geo view d (reachable_directory geo view d r)))

module _ (geo : Geometry) (view : View) (set : ℕ → Bool) (is_set : IsReachableSet geo view set) where
  pub decide_reachable : (d : ℕ) → Decided (IsReachableDirectory geo view d)
  decide_reachable d = decided_along (is_set d).0 (is_set d).1 (decide_true (set d))

  pub decide_entry : (d s i : ℕ) → 1 ≤ i → Decided (IsEntry geo view d s i)
  decide_entry d s i p =
      decided_along
      (λ h. record { reachable = h.0; after_dots = h.1.0; names = h.1.1 })
      (λ h. (h.reachable, (h.after_dots, h.names)))
      (both_decided (decide_reachable d) (both_decided (decide_le 2 s) (decide_names geo view d s i p)))

  -- whether some entry of e names i
  pub decide_named_by : (e i : ℕ) → 1 ≤ i → Decided ((s : ℕ) × IsEntry geo view e s i)
  decide_named_by e i p =
      decided_along
      (λ h. (h.0, h.2))
      (λ h. (h.0, (names_stands geo view e h.0 i h.1.names).place.below, h.1))
      (decide_below (λ s. IsEntry geo view e s i) (λ s. decide_entry e s i p) (slot_count geo))

  parent_from : (d e : ℕ) → (d ≡ root → ⊥) → Names geo view d 1 e → Decided ((s : ℕ) × IsEntry geo view e s d) → Decided (HasParent geo view d)
  parent_from d e other h (inl k) = inl (inr (other, e, k.0, h, k.1))
  parent_from d e other h (inr none) = inr (λ p. elim p [
    | inl t ↦ other t.0
    | inr t ↦ none (t.2, subst (λ q. IsEntry geo view q t.2 d) (names_one geo view d 1 t.1 e t.3 h) t.4)
  ])

  pub decide_parent : (d : ℕ) → 1 ≤ d → Decided (HasParent geo view d)
  decide_parent d p =
      elim (cases_eq d root) [
        | inl top ↦ elim (decide_names geo view d 1 root (omega arith)) [
          | inl h ↦ inl (inl (top, h))
          | inr none ↦ inr (λ q. elim q [ inl t ↦ none t.1 | inr t ↦ t.0 top ])
        ]
        | inr other ↦ elim (cases_lt 0 (number_in (slot geo view d 1))) [
          | inl some ↦ parent_from d (number_in (slot geo view d 1)) other
              (names_from_number geo view d 1 (number_in (slot geo view d 1)) some refl)
              (decide_named_by (number_in (slot geo view d 1)) d p)
          | inr nothing ↦ inr (λ q. elim q [
            | inl t ↦ other t.0
            | inr t ↦ omega (arith, number_from_names geo view d 1 t.1 t.3, number_low geo t.1 (names_stands geo view d 1 t.1 t.3).number, nothing)
          ])
        ]
      ]

module _ (geo : Geometry) (view : View) (n : ℕ) (none : NoneBreaksUpTo geo view n) where
  -- a finding of one of the rules 1 to n
  refused : (f : Finding) → 1 ≤ rule_of f → rule_of f ≤ n → IsFinding geo view f → ⊥
  refused f hard low h = omega (arith, none f h hard, low)

  first_rule : 1 ≤ n → RootIsDirectory geo view
  first_rule low = true_unless (is_directory_at geo view root) (λ f. refused RootBad (omega arith) low f)

  second_rule : 2 ≤ n → RecordsAreSound geo view
  second_rule low i number =
      elim (cases_eq (view.inode i).mode 0) [
        | inl z ↦ inl z
        | inr used ↦ inr (true_unless (is_sound geo (view.inode i)) (λ u. refused (BadInode i) (omega arith) low (number, used, u)))
      ]

  third_rule : 3 ≤ n → UsesAreClaims geo view
  third_rule low = record {
    claims = λ i k v u. true_unless (is_data_address geo v) (λ f. refused (BadPointer i k v) (omega arith) low (u, f));
    marked = λ i k a c. true_unless (view.block_marked a) (λ f. refused (UnmarkedBlock a) (omega arith) low ((i, k, c), f));
    once = λ i k j l a c b.
        elim (same_or_before i k j l) [
          | inl e ↦ e
          | inr h ↦ elim h [
            | inl before ↦ absurd (refused (Duplicate i k a) (omega arith) low (c, j, l, b, before))
            | inr before ↦ absurd (refused (Duplicate j l a) (omega arith) low (b, i, k, c, before))
          ]
        ];
  }

  fourth_rule : 4 ≤ n → NumbersAreMarked geo view
  fourth_rule low i number used = true_unless (view.number_marked i) (λ f. refused (UnmarkedInode i) (omega arith) low (number, used, f))

  module _ (set : ℕ → Bool) (is_set : IsReachableSet geo view set) where
    fifth_rule : 5 ≤ n → DotsAreRight geo view
    fifth_rule low d r = (
      elim (decide_names geo view d 0 d (low_reachable geo view d r)) [
        | inl h ↦ h
        | inr differs ↦ absurd (refused (BadDot d) (omega arith) low (r, differs))
      ],
      elim (decide_parent geo view set is_set d (low_reachable geo view d r)) [
        | inl h ↦ h
        | inr differs ↦ absurd (refused (BadDotDot d) (omega arith) low (r, differs))
      ],
    )

    good_parent : (d : ℕ) → HasParent geo view d → (i : ℕ) → Names geo view d 1 i → IsReachableDirectory geo view d → IsTrue (is_sound geo (view.inode i))
    good_parent d p i h r =
        elim p [
          | inl t ↦ subst (λ q. IsTrue (is_sound geo (view.inode q))) (names_one geo view d 1 root i t.1 h) (directory_sound geo view root (path_root geo view r.0 d r.1))
          | inr t ↦ subst (λ q. IsTrue (is_sound geo (view.inode q))) (names_one geo view d 1 t.1 i t.3 h) (directory_sound geo view t.1 (reachable_directory geo view t.1 t.4.reachable))
        ]

    parent_named : (d : ℕ) → HasParent geo view d → (i : ℕ) × Names geo view d 1 i
    parent_named d p = elim p [ inl t ↦ (root, t.1) | inr t ↦ (t.1, t.3) ]

    module _ (low : 6 ≤ n) where
      dots : DotsAreRight geo view
      dots = fifth_rule (omega (arith, low))

      not_bad : (d s : ℕ) → IsReachableDirectory geo view d → slot geo view d s ≡ Bad → ⊥
      not_bad d zero r b = let h = (dots d r).0 in let e : Good d h.0 ≡ Bad = sym h.1 ∙ b in cc
      not_bad d (suc zero) r b = let h = parent_named d (dots d r).1 in let e : Good h.0 h.1.0 ≡ Bad = sym h.1.1 ∙ b in cc
      not_bad d (suc (suc s)) r b = refused (BadSlot d (suc (suc s))) (omega arith) low (r, omega arith, b)

      names_sound : (d s i : ℕ) → IsReachableDirectory geo view d → Names geo view d s i → IsTrue (is_sound geo (view.inode i))
      names_sound d zero i r h =
          subst (λ q. IsTrue (is_sound geo (view.inode q))) (names_one geo view d 0 d i (dots d r).0 h) (directory_sound geo view d (reachable_directory geo view d r))
      names_sound d (suc zero) i r h = good_parent d (dots d r).1 i h r
      names_sound d (suc (suc s)) i r h =
          true_unless (is_sound geo (view.inode i))
          (λ f. refused (ToUnsound d (suc (suc s))) (omega arith) low (i, record { reachable = r; after_dots = omega arith; names = h }, f))

      sixth_rule : SlotsAreRight geo view
      sixth_rule = record {
        none_bad = not_bad;
        distinct = λ d s t i j name r p q e f.
            elim (cases_order s t) [
              | inl same ↦ same
              | inr c ↦ elim c [
                | inl b ↦ absurd (refused (DupName d t) (omega arith) low (r, s, j, i, name, p, b, e, f))
                | inr b ↦ absurd (refused (DupName d s) (omega arith) low (r, t, i, j, name, q, b, f, e))
              ]
            ];
        sound = names_sound;
      }

  seventh_rule : 7 ≤ n → DirectoriesHaveOneEntry geo view
  seventh_rule low = record {
    once = λ d s e t i dir h k.
        elim (same_or_before d s e t) [
          | inl same ↦ same
          | inr c ↦ elim c [
            | inl before ↦ absurd (refused (ExtraName d s) (omega arith) low (i, h, inr (dir, e, t, k, before)))
            | inr before ↦ absurd (refused (ExtraName e t) (omega arith) low (i, k, inr (dir, d, s, h, before)))
          ]
        ];
    no_root = λ d s h. refused (ExtraName d s) (omega arith) low (root, h, inl refl);
  }

  eighth_rule : 8 ≤ n → LinksCoverEntries geo view
  eighth_rule low i e r h =
      elim (cases_lt (view.inode i).links e) [
        | inl few ↦ absurd (refused (CountLow i (view.inode i).links e) (omega arith) low (r, refl, h, few))
        | inr enough ↦ enough
      ]

  -- each of the rules up to n holds
  pub rule_holds : (k : ℕ) → k ≤ n → Rule geo view k
  rule_holds zero low = tt
  rule_holds (suc zero) low = first_rule low
  rule_holds (suc (suc zero)) low = second_rule low
  rule_holds (suc (suc (suc zero))) low = third_rule low
  rule_holds (suc (suc (suc (suc zero)))) low = fourth_rule low
  rule_holds (suc (suc (suc (suc (suc zero))))) low = let set = reachable_set geo view in fifth_rule set.0 set.1 low
  rule_holds (suc (suc (suc (suc (suc (suc zero)))))) low = let set = reachable_set geo view in sixth_rule set.0 set.1 low
  rule_holds (suc (suc (suc (suc (suc (suc (suc zero))))))) low = seventh_rule low
  rule_holds (suc (suc (suc (suc (suc (suc (suc (suc zero)))))))) low = eighth_rule low
  rule_holds (suc (suc (suc (suc (suc (suc (suc (suc (suc k))))))))) low = tt

-- ---- all of the rules

pub rule_where_obeyed : (geo : Geometry) (view : View) → ObeysRules geo view → (n : ℕ) → Rule geo view n
rule_where_obeyed geo view o zero = tt
rule_where_obeyed geo view o (suc zero) = o.rule1
rule_where_obeyed geo view o (suc (suc zero)) = o.rule2
rule_where_obeyed geo view o (suc (suc (suc zero))) = o.rule3
rule_where_obeyed geo view o (suc (suc (suc (suc zero)))) = o.rule4
rule_where_obeyed geo view o (suc (suc (suc (suc (suc zero))))) = o.rule5
rule_where_obeyed geo view o (suc (suc (suc (suc (suc (suc zero)))))) = o.rule6
rule_where_obeyed geo view o (suc (suc (suc (suc (suc (suc (suc zero))))))) = o.rule7
rule_where_obeyed geo view o (suc (suc (suc (suc (suc (suc (suc (suc zero)))))))) = o.rule8
rule_where_obeyed geo view o (suc (suc (suc (suc (suc (suc (suc (suc (suc n))))))))) = tt

-- an image obeys the rules where no finding breaks one
pub obeys_where_none_breaks : (geo : Geometry) (view : View) → NoneBreaksUpTo geo view 8 → ObeysRules geo view
obeys_where_none_breaks geo view none =
    let rule : (k : ℕ) → k ≤ 8 → Rule geo view k = rule_holds geo view 8 none in
    record {
      rule1 = rule 1 (omega arith);
      rule2 = rule 2 (omega arith);
      rule3 = rule 3 (omega arith);
      rule4 = rule 4 (omega arith);
      rule5 = rule 5 (omega arith);
      rule6 = rule 6 (omega arith);
      rule7 = rule 7 (omega arith);
      rule8 = rule 8 (omega arith);
    }

-- ---- soft findings

-- a finding is soft or breaks a rule
soft_or_breaks : (f : Finding) → IsTrue (is_soft f) ⊎ (1 ≤ rule_of f)
soft_or_breaks (LostInode i) = inl refl
soft_or_breaks (CountHigh i l e) = inl refl
soft_or_breaks (LostBlock a) = inl refl
soft_or_breaks (LostNumber i) = inl refl
soft_or_breaks _ = inr (omega arith)

-- and not both
not_both : (f : Finding) → IsTrue (is_soft f) → 1 ≤ rule_of f → ⊥
not_both (LostInode i) soft hard = omega (arith, hard)
not_both (CountHigh i l e) soft hard = omega (arith, hard)
not_both (LostBlock a) soft hard = omega (arith, hard)
not_both (LostNumber i) soft hard = omega (arith, hard)
not_both _ soft hard = cc

pub soft_from_rules : (geo : Geometry) (view : View) → ObeysRules geo view → AllSoft geo view
soft_from_rules geo view o f h =
    elim (soft_or_breaks f) [
      | inl soft ↦ soft
      | inr hard ↦ absurd (breaks_rule geo view f h hard (rule_where_obeyed geo view o (rule_of f)))
    ]

pub rules_where_soft : (geo : Geometry) (view : View) → ObeysRules geo view ↔ AllSoft geo view
rules_where_soft geo view = (soft_from_rules geo view, λ soft. obeys_where_none_breaks geo view (λ f h hard. absurd (not_both f (soft f h) hard)))
