use Rattle.plans_data.proofs.FewerSafe.{fewer_agree}
use Rattle.plans_data.proofs.fewer_files_may_be_safe.Goals as goal

pub returns : goal.returns
returns c = fewer_agree
