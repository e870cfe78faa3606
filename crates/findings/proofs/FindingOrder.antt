-- The derived order of findings is the order of a report, and it is total and exact; and their derived `==` is that of the order.
use Rattle.std.proofs.Common.{◌≡◌, true, List, sym, ap, ◌∙◌, subst, rules}
use mathlib.Core.Path.{fun_ext}
use Rattle.std.specs.Cmp.{IsEquivalence, IsTotalOrder, eq_by_cmp_equiv, on_total}
use Rattle.std.specs.List.Sorted.{IsStrictlySortedBy}
use Rattle.std.specs.Ordering.{eq_by_cmp, is_eq}
use Rattle.std.proofs.lemmas.Cmp.{nat_list_cmp_total}
use Rattle.std.proofs.lemmas.Map.Lookups.{CmpEqualImpliesEq}
use Rattle.findings.specs.declared.finding.Finding.{Finding}
use Rattle.findings.specs.Findings.{finding_cmp, finding_key}
use Rattle.findings.specs.contracts.finding.FindingOrd.TheImpl as derived
use Rattle.findings.specs.contracts.finding.FindingPartialEq.TheImpl as derived_eq

pub cmp_at : (x y : Finding) → derived.ghosts.cmp x y ≡ finding_cmp x y
cmp_at x y = search rules

pub same_order : derived.ghosts.cmp ≡ finding_cmp
same_order = fun_ext (λ x. fun_ext (λ y. cmp_at x y))

pub finding_total : IsTotalOrder finding_cmp
finding_total = on_total finding_key nat_list_cmp_total

same_key : (x y : Finding) → derived_eq.ghosts.eq x y ≡ true → x ≡ y
same_key x y h = search rules

pub finding_eq : (x y : Finding) → derived_eq.ghosts.eq x y ≡ eq_by_cmp finding_cmp x y
finding_eq x y = search rules

pub finding_exact : CmpEqualImpliesEq finding_cmp
finding_exact x y e = same_key x y (finding_eq x y ∙ ap is_eq e)

pub finding_laws : IsEquivalence derived_eq.ghosts.eq
finding_laws = subst (λ e. IsEquivalence e) (sym (fun_ext (λ x. fun_ext (λ y. finding_eq x y)))) (eq_by_cmp_equiv finding_total)

pub sorted_findings : (xs : List Finding) → IsStrictlySortedBy derived.ghosts.cmp xs → IsStrictlySortedBy finding_cmp xs
sorted_findings xs s = subst (λ c. IsStrictlySortedBy c xs) same_order s
