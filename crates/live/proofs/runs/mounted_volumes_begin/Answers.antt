use Rattle.live.proofs.RunLemmas.{mounted_begins}
use Rattle.live.proofs.runs.mounted_volumes_begin.Goals as goal

pub returns : goal.returns
returns g c = mounted_begins
