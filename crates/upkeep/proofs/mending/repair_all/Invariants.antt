use Rattle.std.proofs.Common.{◌≤◌}
use Rattle.upkeep.specs.Calls.{Inner}
use Rattle.upkeep.proofs.Asking.{Asks}
use Rattle.upkeep.proofs.mending.repair_all.Given as goal

abbrev pub invariant-loop-place : goal.invariant-loop-place
invariant-loop-place g l = record {
  asks : Asks (g.A.Asked.calls l.fn.asked) (g.A.Asked.calls l.asked) l.place l.done;
  few : l.done ≤ l.place;
  inner : Inner (g.A.Asked.calls l.fn.asked) (g.A.Asked.calls l.asked);
}
