use Rattle.live.proofs.RunLemmas.{safe_run}
use Rattle.live.proofs.runs.each_stop_of_a_run_is_safe.Goals as goal

pub returns : goal.returns
returns g c = λ beside image0 live0 belongs mount h cut safe0 begins begins_so image live commands replies images lives.
    safe_run beside image0 live0 belongs mount h cut safe0 begins begins_so image live commands replies images lives
