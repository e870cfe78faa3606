use Rattle.plans_data.proofs.Stands.{carried}
use Rattle.plans_data.proofs.standing.a_chain_carries_out_its_command.Goals as goal

pub returns : goal.returns
returns c = carried
