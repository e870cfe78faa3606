use Rattle.findings.proofs.Soft.{rules_where_soft}
use Rattle.findings.proofs.rules_hold_where_findings_are_soft.Goals as goal

pub returns : goal.returns
returns c = rules_where_soft
