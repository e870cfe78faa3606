use Rattle.plans_data.proofs.CarriedWrites.{carries_close}
use Rattle.plans_data.proofs.commands.closes_are_carried_out.Goals as goal

pub returns : goal.returns
returns c = carries_close
