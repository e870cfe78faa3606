use Rattle.power_cut.proofs.GoingLemmas.{go_together}
use Rattle.power_cut.proofs.volumes_go_on_with_their_devices.Goals as goal

pub returns : goal.returns
returns c = go_together
