use Rattle.courses.proofs.ServiceLemmas.{service_session}
use Rattle.courses.proofs.services.each_service_is_a_session.Goals as goal

pub returns : goal.returns
returns c = service_session
