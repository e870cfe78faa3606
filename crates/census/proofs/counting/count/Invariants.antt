use Rattle.std.proofs.Common.{◌≡◌, ◌≤◌}
use Rattle.frozen.specs.Kept.{frozen_view}
use Rattle.model.specs.Reach.{sum_below}
use Rattle.census.specs.Census.{counts}
use Rattle.census.proofs.CountLemmas.{once}
use Rattle.census.proofs.counting.count.Given as goal

abbrev pub invariant-loop-place : goal.invariant-loop-place
invariant-loop-place l = record {
  counted : l.count ≡ sum_below l.place (once (counts l.fn.frozen.geometry (frozen_view l.fn.frozen) l.fn.what));
  few : l.count ≤ l.place;
}
