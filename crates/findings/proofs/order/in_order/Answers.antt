use Rattle.std.proofs.Common.{sym, subst}
use Rattle.sets.specs.Ordered.{IsExact}
use Rattle.findings.proofs.FindingOrder.{finding_exact, same_order, sorted_findings}
use Rattle.findings.proofs.order.in_order.Goals as goal

pub returns-clause-order : goal.returns-clause-order
returns-clause-order c = sorted_findings c.in_ok-in_order.field-0.items c.in_ok-in_order.ensures.order

pub returns-clause-same : goal.returns-clause-same
returns-clause-same c = c.in_ok-in_order.ensures.same (subst (λ cmp. IsExact cmp) (sym same_order) finding_exact)
