use Rattle.plans_data.proofs.CarriedWrites.{carries_truncation}
use Rattle.plans_data.proofs.commands.truncations_are_carried_out.Goals as goal

pub returns : goal.returns
returns c = carries_truncation
