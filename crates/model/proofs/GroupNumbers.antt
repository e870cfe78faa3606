-- The numbers of a group, which a loop goes through from the first to the last.
use Rattle.std.proofs.Common.{◌≡◌, ◌<◌, ◌≤◌, ◌+◌, ◌-◌, ◌/◌, ℕ, Bool, true, false, ◌&&◌, ◌||◌, eqb, ltb, ◌↔◌, inl, inr, refl, sym, subst, arith, IsTrue}
use Rattle.std.specs.declared.ops.Range.{Range}
use Rattle.std.proofs.lemmas.Bool.{cases_eq, cases_lt, false≢true, ne_eqb}
use Rattle.std.proofs.lemmas.Bool.Decides.{nat_tests}
use Rattle.model.specs.Layout.{Geometry, is_number}
use Rattle.model.specs.Units.{AreNumbers}

-- the numbers of a group from this one on are those below the end
abbrev pub AreNumbersFrom : Geometry → ℕ → ℕ → ℕ → Type 0
AreNumbersFrom geo group first past = (i : ℕ) → first ≤ i → (i < past) ↔ (IsTrue (is_number geo i) × (i / geo.inodes ≡ group))

-- the same range of the same geometry
pub same_numbers : {geo other : Geometry} {group : ℕ} {range items : Range ℕ} → geo ≡ other → items ≡ range → AreNumbers geo group range → AreNumbers other group items
same_numbers {geo} {other} {group} {range} {items} e f h =
    subst (λ (r : Range ℕ). AreNumbers other group r) (sym f) (subst (λ (g : Geometry). AreNumbers g group range) e h)

module _ (geo : Geometry) (group : ℕ) where
  -- ---- before the first turn
  pub none_before : (range : Range ℕ) → AreNumbers geo group range → (i : ℕ) → IsTrue (is_number geo i) → i / geo.inodes ≡ group → range.start ≤ i
  none_before range all i t e = ((all i).1 (t, e)).0

  pub all_from : (range : Range ℕ) → AreNumbers geo group range → AreNumbersFrom geo group range.start range.end
  all_from range all i from = ((λ lt. (all i).0 (from, lt)), (λ h. ((all i).1 h).1))

  -- ---- a turn
  pub first_number : (first past : ℕ) → AreNumbersFrom geo group first past → 0 < past - first → IsTrue (is_number geo first) × (first / geo.inodes ≡ group)
  first_number first past all some = (all first (omega arith)).0 (omega (arith, some))

  pub numbers_after : (first past next end : ℕ) → next ≡ first + 1 → end ≡ past → AreNumbersFrom geo group first past → AreNumbersFrom geo group next end
  numbers_after first past next end step same all i from =
      subst (λ n. (i < n) ↔ (IsTrue (is_number geo i) × (i / geo.inodes ≡ group))) (sym same) (all i (omega (arith, from, step)))

  -- ---- after the last turn
  pub all_before : (first past : ℕ) → AreNumbersFrom geo group first past → past - first ≡ 0 → (i : ℕ) → IsTrue (is_number geo i) → i / geo.inodes ≡ group → i < first
  all_before first past all ended i t e = elim (cases_lt i first) [
    | inl lt ↦ lt
    | inr from ↦ (let lt = (all i from).1 (t, e) in omega (arith, lt, ended))
  ]

-- ---- sets of numbers, and those of them below a number
pub before_none : (p : Bool) (d k : ℕ) → (p ≡ true → k ≤ d) → (p && ltb d k) ≡ false
before_none true d k h = let from = h refl in grind (arith, nat_tests)
before_none false d k h = refl

pub before_more : (p : Bool) (d k : ℕ) → (d ≡ k → p ≡ true) → ((p && ltb d k) || eqb d k) ≡ (p && ltb d (k + 1))
before_more true d k h = grind (arith, nat_tests)
before_more false d k h = elim (cases_eq d k) [ inl e ↦ absurd (false≢true (h e)) | inr apart ↦ ne_eqb d k apart ]

pub before_same : (p : Bool) (d k : ℕ) → (d ≡ k → p ≡ false) → (p && ltb d k) ≡ (p && ltb d (k + 1))
before_same true d k h = elim (cases_eq d k) [ inl e ↦ absurd (false≢true (sym (h e))) | inr apart ↦ grind (arith, nat_tests) ]
before_same false d k h = refl

pub before_all : (p : Bool) (d k : ℕ) → (p ≡ true → d < k) → (p && ltb d k) ≡ p
before_all true d k h = let below = h refl in grind (arith, nat_tests)
before_all false d k h = refl
