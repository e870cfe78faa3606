use Rattle.std.proofs.Common.{take}
use Rattle.frozen.specs.Kept.{frozen_view}
use Rattle.connectivity.specs.Asked.{Asks, round_in}
use Rattle.connectivity.proofs.asking.follow_piece.Given as goal

abbrev pub invariant-loop-directory : goal.invariant-loop-directory
invariant-loop-directory l =
    Asks l.walk.frozen.now.geometry (frozen_view l.walk.frozen.now) (round_in l.walk.frozen.now.geometry (frozen_view l.walk.frozen.now) (take l.directory-index l.round) l.piece) l.fn.seat l.fn.found.items l.seat l.found.items
