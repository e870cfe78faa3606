use Rattle.findings.proofs.Owners.{duplicate_or_owner}
use Rattle.findings.proofs.duplicates_are_no_owners.Goals as goal

pub returns : goal.returns
returns c = duplicate_or_owner
