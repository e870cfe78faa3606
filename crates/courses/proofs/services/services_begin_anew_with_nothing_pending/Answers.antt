use Rattle.courses.proofs.ServiceLemmas.{begins_anew}
use Rattle.courses.proofs.services.services_begin_anew_with_nothing_pending.Goals as goal

pub returns : goal.returns
returns c = begins_anew
