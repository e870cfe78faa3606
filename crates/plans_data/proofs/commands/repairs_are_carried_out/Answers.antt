use Rattle.plans_data.proofs.CarriedRepairs.{carries_repair}
use Rattle.plans_data.proofs.commands.repairs_are_carried_out.Goals as goal

pub returns : goal.returns
returns c = carries_repair
