use Rattle.frozen.specs.Kept.{frozen_view}
use Rattle.pictures.specs.Walk.{ShowBefore}
use Rattle.pictures.proofs.claiming.claim_all.Given as goal

abbrev pub invariant-loop-position : goal.invariant-loop-position
invariant-loop-position l = ShowBefore l.frozen.geometry (frozen_view l.frozen) l.number l.position l.cells.items

abbrev pub invariant-loop-table : goal.invariant-loop-table
invariant-loop-table l = ShowBefore l.frozen.geometry (frozen_view l.frozen) l.number l.table l.cells.items
