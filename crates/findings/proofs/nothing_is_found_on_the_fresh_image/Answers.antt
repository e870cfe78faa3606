use Rattle.findings.proofs.FreshFindings.{fresh_findings}
use Rattle.findings.proofs.nothing_is_found_on_the_fresh_image.Goals as goal

pub returns : goal.returns
returns c = fresh_findings
