use Rattle.fsck.proofs.FindingLemmas.{image_findings}
use Rattle.fsck.proofs.findings_are_the_images.Goals as goal

pub returns : goal.returns
returns c = image_findings
