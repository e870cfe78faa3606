use Rattle.findings.proofs.SameFindings.{same_findings}
use Rattle.findings.proofs.metadata_decides.Goals as goal

pub returns : goal.returns
returns c = same_findings
