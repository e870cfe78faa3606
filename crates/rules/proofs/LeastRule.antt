-- The least of the rules that findings show broken.
use Rattle.std.proofs.Common.{◌≡◌, ◌≤◌, ℕ, zero, suc, min, ◌==◌, if◌then◌else◌, ◌∙◌, List, [], ◌∷◌, Option, Some, None, MatchOption, Contains, ◌⊎◌, inl, inr, ◌↔◌, sym, ap, subst, arith}
use Rattle.std.proofs.Math.Nat.{min-eq_left, min-eq_right, min-le_left, min-le_right}
use Rattle.std.proofs.lemmas.Bool.{cases_lt, ne_eqb}
use Rattle.std.proofs.lemmas.Option.{none-some, same_Some}
use Rattle.std.specs.List.{cons_option, filter_map, fold, reduce}
use Rattle.findings.specs.declared.finding.Finding.{Finding}
use Rattle.findings.specs.Findings.{IsFinding}
use Rattle.findings.specs.Rules.{rule_of}
use Rattle.findings.proofs.Sorted.{Contains-here, Contains-there, Contains-cases}
use Rattle.findings.proofs.Soft.{breaks_rule, obeys_where_none_breaks, rule_holds}
use Rattle.model.specs.Layout.{Geometry}
use Rattle.model.specs.View.{View}
use Rattle.model.specs.Rules.{IsLeastBroken, ObeysRules, Rule}
use Rattle.rules.specs.Broken.{rule_broken}

-- ---- the least of some numbers

least_below : (a : ℕ) (xs : List ℕ) → (fold min a xs ≤ a) × ((x : ℕ) → Contains xs x → fold min a xs ≤ x)
least_below a [] = (omega arith, λ x h. omega (arith, h.1))
least_below a (y ∷ ys) =
    let rest = least_below (min a y) ys in (
      omega (arith, rest.0, min-le_left a y),
      λ x h. elim (Contains-cases y ys x h) [ inl e ↦ omega (arith, rest.0, min-le_right a y, e) | inr there ↦ rest.1 x there ],
    )

least_among : (a : ℕ) (xs : List ℕ) → Contains (a ∷ xs) (fold min a xs)
least_among a [] = Contains-here a []
least_among a (y ∷ ys) = elim (Contains-cases (min a y) ys (fold min (min a y) ys) (least_among (min a y) ys)) [
  | inl e ↦ elim (cases_lt a y) [
    | inl less ↦ subst (Contains (a ∷ y ∷ ys)) (sym (min-eq_left (omega (arith, less))) ∙ e) (Contains-here a (y ∷ ys))
    | inr more ↦ subst (Contains (a ∷ y ∷ ys)) (sym (min-eq_right more) ∙ e) (Contains-there a (y ∷ ys) y (Contains-here y ys))
  ]
  | inr there ↦ Contains-there a (y ∷ ys) _ (Contains-there y ys _ there)
]

-- k is among the numbers, and none of them is below it
abbrev IsLeastIn : List ℕ → ℕ → Type 0
IsLeastIn xs k = Contains xs k × ((x : ℕ) → Contains xs x → k ≤ x)

least_of : (xs : List ℕ) → MatchOption (reduce min xs) ((x : ℕ) → Contains xs x → ⊥) (IsLeastIn xs)
least_of [] = λ x h. omega (arith, h.1)
least_of (y ∷ ys) =
    let below = least_below y ys in
    (least_among y ys, λ x h. elim (Contains-cases y ys x h) [ inl e ↦ omega (arith, below.0, e) | inr there ↦ below.1 x there ])

-- ---- what a list's items give

module _ {X : Type 0} (h : X → Option ℕ) where
  given_first : (o : Option ℕ) (ys : List ℕ) (k : ℕ) → Contains (cons_option o ys) k → (o ≡ Some k) ⊎ Contains ys k
  given_first None ys k c = inr c
  given_first (Some y) ys k c = elim (Contains-cases y ys k c) [ inl e ↦ inl (ap Some e) | inr there ↦ inr there ]

  gives_later : (o : Option ℕ) (ys : List ℕ) (k : ℕ) → Contains ys k → Contains (cons_option o ys) k
  gives_later None ys k c = c
  gives_later (Some y) ys k c = Contains-there y ys k c

  -- each number of the list stands for an item
  given_by : (xs : List X) (k : ℕ) → Contains (filter_map h xs) k → (x : X) × Contains xs x × (h x ≡ Some k)
  given_by [] k c = absurd (omega (arith, c.1))
  given_by (y ∷ ys) k c = elim (given_first (h y) (filter_map h ys) k c) [
    | inl e ↦ (y, Contains-here y ys, e)
    | inr there ↦ let more = given_by ys k there in (more.0, Contains-there y ys more.0 more.1, more.2)
  ]

  -- and what an item gives is in it
  gives : (xs : List X) (x : X) (k : ℕ) → Contains xs x → h x ≡ Some k → Contains (filter_map h xs) k
  gives [] x k c e = absurd (omega (arith, c.1))
  gives (y ∷ ys) x k c e = elim (Contains-cases y ys x c) [
    | inl same ↦ subst (λ o. Contains (cons_option o (filter_map h ys)) k) (sym (ap h same ∙ e)) (Contains-here k (filter_map h ys))
    | inr there ↦ gives_later (h y) (filter_map h ys) k (gives ys x k there e)
  ]

-- ---- the least broken rule

positive : (n : ℕ) → 1 ≤ n → (if n == 0 then None else Some n) ≡ Some n
positive n h = ap (λ b. if b then None else Some n) (ne_eqb n 0 (λ e. omega (arith, h, e)))

above_zero : (n k : ℕ) → (if n == 0 then None else Some n) ≡ Some k → (1 ≤ n) × (n ≡ k)
above_zero zero k e = absurd (none-some k e)
above_zero (suc n) k e = (omega arith, same_Some (suc n) k (sym (positive (suc n) (omega arith)) ∙ e))

module _ (geo : Geometry) (view : View) (found : List Finding) (exactly : (f : Finding) → Contains found f ↔ IsFinding geo view f) where
  abbrev rules_broken : List ℕ
  rules_broken = filter_map rule_broken found

  among : (f : Finding) → IsFinding geo view f → 1 ≤ rule_of f → Contains rules_broken (rule_of f)
  among f is hard = gives rule_broken found f (rule_of f) ((exactly f).1 is) (positive (rule_of f) hard)

  least_is : (k : ℕ) → IsLeastIn rules_broken k → IsLeastBroken geo view k
  least_is k least =
      let by = given_by rule_broken found k least.0 in
      let is = above_zero (rule_of by.0) k by.2 in
      record {
        broken = subst (λ n. Rule geo view n → ⊥) is.1 (breaks_rule geo view by.0 ((exactly by.0).0 by.1) is.0);
        before = λ n less. rule_holds geo view n (λ f h hard. omega (arith, least.1 (rule_of f) (among f h hard), less)) n (omega arith);
      }

  least_of_rules : (o : Option ℕ) → MatchOption o ((x : ℕ) → Contains rules_broken x → ⊥) (IsLeastIn rules_broken)
      → MatchOption o (ObeysRules geo view) (IsLeastBroken geo view)
  least_of_rules None none = obeys_where_none_breaks geo view (λ f h hard. absurd (none (rule_of f) (among f h hard)))
  least_of_rules (Some k) least = least_is k least

  pub least_broken : (o : Option ℕ) → o ≡ reduce min rules_broken → MatchOption o (ObeysRules geo view) (IsLeastBroken geo view)
  least_broken o e = subst (λ p. MatchOption p (ObeysRules geo view) (IsLeastBroken geo view)) (sym e) (least_of_rules (reduce min rules_broken) (least_of rules_broken))
