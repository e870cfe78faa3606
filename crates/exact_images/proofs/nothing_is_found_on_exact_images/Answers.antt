use Rattle.exact_images.proofs.ExactFindings.{exact_findings}
use Rattle.exact_images.proofs.nothing_is_found_on_exact_images.Goals as goal

pub returns : goal.returns
returns c = exact_findings
