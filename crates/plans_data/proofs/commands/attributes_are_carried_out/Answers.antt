use Rattle.plans_data.proofs.Attributing.{carries_attributes}
use Rattle.plans_data.proofs.commands.attributes_are_carried_out.Goals as goal

pub returns : goal.returns
returns c = carries_attributes
