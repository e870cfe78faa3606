use Rattle.frozen_files.proofs.Laws.{step_keeps_files, run_keeps_files}
use Rattle.frozen_files.proofs.each_step_keeps_the_files_of_snapshots.Goals as goal

pub returns : goal.returns
returns c = record { step = step_keeps_files; runs = run_keeps_files }
