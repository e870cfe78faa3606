use Rattle.courses.proofs.ServiceBytes.{service_owns}
use Rattle.courses.proofs.services.files_show_their_own_bytes.Goals as goal

pub returns : goal.returns
returns c = service_owns
