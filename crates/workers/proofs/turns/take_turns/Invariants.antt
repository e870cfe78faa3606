use Rattle.std.proofs.Common.{◌≡◌, ℕ, ◌-◌, ◌<◌, length}
use Rattle.claims.specs.Counting.{times}
use Rattle.workers.specs.Turns.{Runs, units_in, IsRising}
use Rattle.workers.proofs.turns.take_turns.Given as goal

abbrev pub invariant-loop-unit : goal.invariant-loop-unit
invariant-loop-unit g l = record {
  own : l.seat.of ≡ l.claims.id;
  units : l.seat.units ≡ l.claims.units;
  drawn : l.seat.drawn ≡ units_in l.calls.items;
  rising : IsRising (units_in l.calls.items);
  low : (u : ℕ) → 0 < times u (units_in l.calls.items) → u < l.claims.units;
  runs : Runs g.W.Work.gives l.fn.hand.work l.calls.items l.work;
}

abbrev pub decreases-loop-unit : goal.decreases-loop-unit
decreases-loop-unit g l = l.claims.units - length l.calls.items
