use Rattle.std.proofs.Common.{◌≡◌, vec_len}
use Rattle.std.specs.List.{enumerate_from}
use Rattle.workers.specs.Turns.{Runs}
use Rattle.workers.proofs.in_turn.Given as goal

abbrev pub invariant-loop-unit : goal.invariant-loop-unit
invariant-loop-unit g l = record {
  count : vec_len l.parts ≡ l.unit;
  runs : Runs g.W.Work.gives l.fn.work (enumerate_from 0 l.parts.items) l.work;
}
