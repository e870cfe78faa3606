use Rattle.courses.proofs.Serving.{serves}
use Rattle.courses.proofs.services.accepted_commands_extend_a_session.Goals as goal

pub returns : goal.returns
returns c = serves
