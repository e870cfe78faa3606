use Rattle.courses.proofs.ServiceLemmas.{stays_safe}
use Rattle.courses.proofs.services.files_that_lose_no_name_stay_safe.Goals as goal

pub returns : goal.returns
returns c = stays_safe
