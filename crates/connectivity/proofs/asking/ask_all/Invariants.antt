use Rattle.std.proofs.Common.{take}
use Rattle.frozen.specs.Kept.{frozen_view}
use Rattle.connectivity.specs.Asked.{Asks}
use Rattle.connectivity.proofs.asking.ask_all.Given as goal

abbrev pub invariant-loop-number : goal.invariant-loop-number
invariant-loop-number l = Asks l.walk.frozen.now.geometry (frozen_view l.walk.frozen.now) (take l.number-index l.numbers) l.fn.seat l.fn.found.items l.seat l.found.items
