use Rattle.std.proofs.Common.{true, subst}
use Rattle.std.specs.BTreeSet.{Updates}
use Rattle.model.proofs.Adding.{adds_insert}
use Rattle.findings.proofs.FindingOrder.{same_order, finding_exact, finding_total, sorted_findings}
use Rattle.phase_names.proofs.slots.add_finding.Goals as goal

pub returns-clause-found : goal.returns-clause-found
returns-clause-found c =
    adds_insert finding_total finding_exact c.args.findings.now c.insert.new.self c.args.finding
    (subst (λ cmp. Updates cmp c.args.findings.now c.insert.new.self c.args.finding true) same_order c.in_ok-insert.ensures.updates)

pub returns-clause-ordered : goal.returns-clause-ordered
returns-clause-ordered c = sorted_findings c.insert.new.self.keys c.in_ok-insert.ensures.ordered
