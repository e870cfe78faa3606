use Rattle.findings.proofs.PlaceLemmas.{of_a_group}
use Rattle.findings.proofs.by_group.findings_are_of_groups.Goals as goal

pub returns : goal.returns
returns c = λ geo view f ok. of_a_group geo ok view f
