use Rattle.std.proofs.Common.{take}
use Rattle.frozen.specs.Kept.{frozen_view}
use Rattle.connectivity.specs.Walk.{Visits}
use Rattle.connectivity.proofs.alone.visit_all.Given as goal

abbrev pub invariant-loop-number : goal.invariant-loop-number
invariant-loop-number l =
    Visits l.frozen.geometry (frozen_view l.frozen) (take l.number-index l.numbers) l.fn.reached.keys l.fn.next.items l.reached.keys l.next.items
