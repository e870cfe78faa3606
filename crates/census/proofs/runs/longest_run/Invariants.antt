use Rattle.frozen.specs.Kept.{frozen_view}
use Rattle.census.proofs.RunLemmas.{EndsRun, IsLongestBelow}
use Rattle.census.proofs.runs.longest_run.Given as goal

abbrev pub invariant-loop-address : goal.invariant-loop-address
invariant-loop-address l = record {
  ends : EndsRun l.fn.frozen.geometry (frozen_view l.fn.frozen) l.address l.run;
  longest : IsLongestBelow l.fn.frozen.geometry (frozen_view l.fn.frozen) l.address l.longest;
}
