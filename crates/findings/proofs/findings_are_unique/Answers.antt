-- The order of findings is total, so two sorted lists with the same elements are equal.
use Rattle.std.specs.Cmp.{on_total}
use Rattle.std.proofs.lemmas.Cmp.{nat_list_cmp_total}
use Rattle.findings.specs.Findings.{finding_key, finding_cmp}
use Rattle.findings.proofs.Sorted.{same_sorted}
use Rattle.findings.proofs.findings_are_unique.Goals as goal

pub returns : goal.returns
returns c = λ geo view fs gs f g.
    same_sorted finding_cmp (on_total finding_key nat_list_cmp_total) fs gs f.in_order g.in_order
    (λ x h. (g.exactly x).1 ((f.exactly x).0 h)) (λ x h. (f.exactly x).1 ((g.exactly x).0 h))
