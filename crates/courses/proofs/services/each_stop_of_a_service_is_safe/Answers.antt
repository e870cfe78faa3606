use Rattle.courses.proofs.ServiceLemmas.{service_safe}
use Rattle.courses.proofs.services.each_stop_of_a_service_is_safe.Goals as goal

pub returns : goal.returns
returns c = service_safe
