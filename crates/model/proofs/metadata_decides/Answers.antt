use Rattle.model.proofs.Same.{same_rules}
use Rattle.model.proofs.metadata_decides.Goals as goal

pub returns : goal.returns
returns c = same_rules
