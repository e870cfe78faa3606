-- What the slots of a directory tell is one thing.
use Rattle.std.proofs.Common.{◌≡◌, ℕ, sym, ◌∙◌}
use Rattle.findings.specs.Findings.{finding_cmp}
use Rattle.findings.proofs.FindingOrder.{finding_total}
use Rattle.findings.proofs.Sorted.{same_sorted}
use Rattle.model.specs.Layout.{Geometry}
use Rattle.model.specs.View.{View}
use Rattle.phase_names.specs.Told.{IsTold, Told}

pub told_once : (geo : Geometry) (view : View) (d : ℕ) (x y : Told) → IsTold geo view d x → IsTold geo view d y → x ≡ y
told_once geo view d x y h k =
    let findings = same_sorted finding_cmp finding_total x.findings y.findings h.in_order k.in_order
    (λ f c. (k.findings f).1 ((h.findings f).0 c)) (λ f c. (h.findings f).1 ((k.findings f).0 c)) in
    let parents = h.parent ∙ sym k.parent in
    let namings = h.directories ∙ sym k.directories in
    λ i. record { findings = findings i; parent = parents i; directories = namings i }
