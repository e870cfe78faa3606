use Rattle.kept_claims.proofs.Commands.{plans_give}
use Rattle.kept_claims.proofs.plans_give_new_metadata_its_bytes.Goals as goal

pub returns : goal.returns
returns c = plans_give
