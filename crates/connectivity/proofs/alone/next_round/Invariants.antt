use Rattle.std.proofs.Common.{[], take}
use Rattle.frozen.specs.Kept.{frozen_view}
use Rattle.connectivity.specs.Walk.{Visits, numbers_of}
use Rattle.connectivity.proofs.alone.next_round.Given as goal

abbrev pub invariant-loop-directory : goal.invariant-loop-directory
invariant-loop-directory l =
    Visits l.frozen.geometry (frozen_view l.frozen) (numbers_of l.whole (take l.directory-index l.round)) l.fn.reached.keys [] l.reached.keys l.next.items
