use Rattle.frozen.specs.Kept.{frozen_view}
use Rattle.pictures.specs.Walk.{ShowBefore}
use Rattle.pictures.proofs.claiming.cells_of.Given as goal

abbrev pub invariant-loop-number : goal.invariant-loop-number
invariant-loop-number l = ShowBefore l.frozen.geometry (frozen_view l.frozen) l.number 0 l.cells.items
