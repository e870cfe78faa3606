-- What a sort of a vector's items and a `dedup` leave.
use Rattle.std.proofs.Common.{◌≡◌, ◌↔◌, List, [], length, Contains, IsSorted, IsPermutation, ap, ◌∙◌, subst}
use Rattle.std.specs.List.{dedup}
use Rattle.std.specs.List.Retain.{IsFiltered, DiffersFromLast}
use Rattle.std.specs.List.Sorted.{IsStrictlySortedBy}
use Rattle.std.specs.Prelude.{Vec}
use Rattle.std.specs.Vec.{with_items}
use Rattle.std.proofs.lemmas.List.{with_items_is}
use Rattle.std.proofs.lemmas.List.Filters.{dedup_is}
use Rattle.findings.specs.declared.finding.Finding.{Finding}
use Rattle.findings.specs.Findings.{finding_cmp}
use Rattle.findings.specs.contracts.finding.FindingOrd.TheImpl as derived
use Rattle.findings.specs.contracts.finding.FindingPartialEq.TheImpl as derived_eq
use Rattle.findings.proofs.FindingOrder.{finding_eq, finding_exact, finding_laws, finding_total, same_order}
use Rattle.sets.proofs.OrderLemmas.{strictly, same_members}

module _ {Z : Type 0} (found : Vec Finding Z) (xs sorted kept : List Finding) (items : xs ≡ found.items) (len : length xs ≡ found.len)
    (same_len : length sorted ≡ length xs) (filtered : IsFiltered (DiffersFromLast derived_eq.ghosts.eq) [] (with_items found sorted).items kept) where
  kept_is : kept ≡ dedup derived_eq.ghosts.eq sorted
  kept_is = dedup_is derived_eq.ghosts.eq (with_items found sorted).items kept filtered ∙ ap (dedup derived_eq.ghosts.eq) (with_items_is found sorted (same_len ∙ len))

  pub kept_order : IsSorted derived.ghosts.cmp sorted → IsStrictlySortedBy finding_cmp kept
  kept_order order = strictly finding_cmp finding_total derived_eq.ghosts.eq finding_eq sorted kept (subst (λ cmp. IsSorted cmp sorted) same_order order) kept_is

  pub kept_members : IsPermutation xs sorted → (f : Finding) → Contains kept f ↔ Contains found.items f
  kept_members permuted =
      same_members finding_cmp finding_total derived_eq.ghosts.eq finding_eq finding_laws finding_exact found.items sorted kept
      (subst (λ ys. IsPermutation ys sorted) items permuted) kept_is
