use Rattle.plans_data.proofs.SafeFiles.{fewer_safe, safe_modes}
use Rattle.plans_data.proofs.standing.safe_files_keep_their_modes.Goals as goal

pub returns : goal.returns
returns c = record { fewer = fewer_safe; modes = safe_modes }
