use Rattle.frozen_files.proofs.Laws.{none_kept}
use Rattle.frozen_files.proofs.volumes_without_a_snapshot_keep_its_files.Goals as goal

pub returns : goal.returns
returns c = none_kept
