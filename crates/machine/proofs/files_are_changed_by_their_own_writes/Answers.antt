use Rattle.machine.proofs.RunsOfFiles.{step_shows, step_frees, run_shows, run_under}
use Rattle.machine.proofs.TruncatedSeen.{truncated_size, truncated_seen}
use Rattle.machine.proofs.files_are_changed_by_their_own_writes.Goals as goal

pub returns : goal.returns
returns c = record {
  kept = step_shows;
  freed = step_frees;
  truncated = λ geo g old new h n b s. (truncated_size geo g old new h n b s, truncated_seen geo g old new h n b s);
  run = run_shows;
  open_run = run_under;
}
