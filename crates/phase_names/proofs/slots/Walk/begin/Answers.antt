-- Slot 0 is told where it does not name the directory.
use Rattle.std.proofs.Common.{true, [], map, sym, ap, ◌∙◌, subst}
use Rattle.std.specs.BTreeSet.{Updates, keys}
use Rattle.std.specs.List.Sorted.{IsStrictlySortedBy}
use Rattle.frozen.specs.Kept.{frozen_view}
use Rattle.findings.specs.declared.finding.Finding.TheVariants.{BadDot}
use Rattle.findings.specs.Findings.{finding_cmp}
use Rattle.findings.proofs.FindingOrder.{same_order, finding_exact, finding_total, sorted_findings}
use Rattle.model.specs.Growth.{Adds}
use Rattle.model.specs.Slots.{Names}
use Rattle.model.proofs.Adding.{adds_insert}
use Rattle.model.proofs.SlotLemmas.{names_from_number, number_from_names}
use Rattle.phase_names.specs.Walks.{IsBadDot}
use Rattle.phase_names.proofs.AddLemmas.{adds_unless, adds_when}
use Rattle.phase_names.proofs.WalkLemmas.{walked_none}
use Rattle.phase_names.proofs.slots.Walk.begin.Goals as goal
use Rattle.phase_names.proofs.slots.Walk.begin.Goals.{then-number_in-directory+in_ok-insert, else-number_in-directory}

pub returns-clause-walked : goal.returns-clause-walked
returns-clause-walked c =
    let geo = c.args.frozen.now.geometry in
    let view = frozen_view c.args.frozen.now in
    let d = c.args.directory in
    let found = c.if-number_in-directory.findings.keys in
    walked_none geo view d (record { names = map (λ n. (n.digest, n.bytes.now)) c.new.result.keys; findings = found; directories = c.new-2.result.items }) (ap (map (λ n. (n.digest, n.bytes.now))) c.new.ensures.empty)
    (elim c.if-number_in-directory.branch [
      | then-number_in-directory+in_ok-insert w ↦ subst (λ xs. IsStrictlySortedBy finding_cmp xs) (sym (ap keys w.findings-is)) (sorted_findings w.insert.new.self.keys w.in_ok-insert.ensures.ordered)
      | else-number_in-directory w ↦ subst (λ xs. IsStrictlySortedBy finding_cmp xs) (sym (ap keys w.findings-is)) (sorted_findings c.new-findings.result.keys c.new-findings.ensures.ordered)
    ])
    (elim c.if-number_in-directory.branch [
      | then-number_in-directory+in_ok-insert w ↦
          subst (λ xs. Adds (IsBadDot geo view d) [] xs) (sym (ap keys w.findings-is)) (subst (λ xs. Adds (IsBadDot geo view d) xs w.insert.new.self.keys) c.new-findings.ensures.empty
          (adds_when (Names geo view d 0 d → ⊥) (BadDot d) c.new-findings.result.keys w.insert.new.self.keys
          (λ names. w.if-number_in-directory.true (c.number_in.ensures ∙ number_from_names geo view d 0 d names))
          (adds_insert finding_total finding_exact c.new-findings.result w.insert.new.self (BadDot d)
          (subst (λ cmp. Updates cmp c.new-findings.result w.insert.new.self (BadDot d) true) same_order w.in_ok-insert.ensures.updates))))
      | else-number_in-directory w ↦
          adds_unless (Names geo view d 0 d → ⊥) (BadDot d) [] found
          (λ none. none (names_from_number geo view d 0 d c.requires (sym c.number_in.ensures ∙ w.if-number_in-directory.false))) (ap keys w.findings-is ∙ c.new-findings.ensures.empty)
    ]) c.new-2.ensures.items
