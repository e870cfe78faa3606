use Rattle.std.proofs.Common.{arith}
use Rattle.findings.proofs.Soft.{breaks_rule, rule_holds}
use Rattle.findings.proofs.a_rule_is_broken_where_its_findings_are.Goals as goal

pub returns-clause-broken : goal.returns-clause-broken
returns-clause-broken c = breaks_rule

pub returns-clause-holds : goal.returns-clause-holds
returns-clause-holds c = λ geo view n none. rule_holds geo view n none n (omega arith)
