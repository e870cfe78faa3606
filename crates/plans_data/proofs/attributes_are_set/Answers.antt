use Rattle.plans_data.proofs.Attributing.{attributes_issue, attributes_set}
use Rattle.plans_data.proofs.attributes_are_set.Goals as goal

pub returns : goal.returns
returns c = record { sets = attributes_set; issues = attributes_issue }
