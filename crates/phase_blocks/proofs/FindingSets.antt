-- What a set of findings has after one more, and after those of another set.
use Rattle.std.proofs.Common.{◌≡◌, sym, ◌∙◌, subst, true, ◌⊎◌, inl, inr, ◌↔◌, Contains}
use Rattle.std.specs.BTreeSet.{BTreeSet, Updates, contains}
use Rattle.std.specs.Cmp.{IsTotalOrder}
use Rattle.std.specs.Ordering.{is_eq}
use Rattle.std.proofs.lemmas.Bool.{cases_Bool, cond-true, cond-false}
use Rattle.std.proofs.lemmas.Map.Views.{btree_set_contains_iff, tells_apart}
use Rattle.std.proofs.lemmas.Map.Lookups.{CmpEqualImpliesEq}
use Rattle.findings.specs.declared.finding.Finding.{Finding}
use Rattle.findings.specs.contracts.finding.FindingOrd.TheImpl as derived
use Rattle.findings.proofs.FindingOrder.{same_order, finding_total, finding_exact}

pub derived_total : IsTotalOrder derived.ghosts.cmp
derived_total = subst (λ c. IsTotalOrder c) (sym same_order) finding_total

pub derived_exact : CmpEqualImpliesEq derived.ghosts.cmp
derived_exact = subst (λ c. CmpEqualImpliesEq c) (sym same_order) finding_exact

-- one more finding in a set
pub inserted : (s n : BTreeSet Finding) (key : Finding) → Updates derived.ghosts.cmp s n key true
    → (f : Finding) → Contains n.keys f ↔ (Contains s.keys f ⊎ (f ≡ key))
inserted s n key u f = (
  (λ h. elim (cases_Bool (is_eq (derived.ghosts.cmp key f))) [
    | inl e ↦ inr (sym (tells_apart derived_exact key f e))
    | inr e ↦ inl ((btree_set_contains_iff derived_total derived_exact s f).0 (sym (u.2 f e) ∙ (btree_set_contains_iff derived_total derived_exact n f).1 h))
  ]),
  (λ h. (btree_set_contains_iff derived_total derived_exact n f).0 (elim h [
    | inl there ↦ u.0 f ∙ elim (cases_Bool (is_eq (derived.ghosts.cmp key f))) [
      | inl e ↦ cond-true (is_eq (derived.ghosts.cmp key f)) true (contains derived.ghosts.cmp s f) e
      | inr e ↦ cond-false (is_eq (derived.ghosts.cmp key f)) true (contains derived.ghosts.cmp s f) e ∙ (btree_set_contains_iff derived_total derived_exact s f).1 there
    ]
    | inr e ↦ subst (λ k. contains derived.ghosts.cmp n k ≡ true) (sym e) u.1
  ])),
)
