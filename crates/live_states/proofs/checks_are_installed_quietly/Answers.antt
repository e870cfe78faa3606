use Rattle.live_states.proofs.Installing.{installed_quietly}
use Rattle.live_states.proofs.checks_are_installed_quietly.Goals as goal

pub returns : goal.returns
returns c = λ kept holdings check list is. installed_quietly kept holdings check list is
