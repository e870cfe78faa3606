use Rattle.std.proofs.Common.{[]}
use Rattle.frozen.specs.Kept.{frozen_view}
use Rattle.connectivity.specs.Asked.{Asks, in_pieces}
use Rattle.connectivity.proofs.LoneLemmas.{asked_below}
use Rattle.connectivity.proofs.lone_round.follow_pieces.Given as goal

abbrev pub invariant-loop-unit : goal.invariant-loop-unit
invariant-loop-unit g l =
    Asks l.walk.frozen.now.geometry (frozen_view l.walk.frozen.now) (asked_below l.walk.frozen.now.geometry (frozen_view l.walk.frozen.now) (in_pieces l.round l.walk.pieces.now) l.unit) l.fn.seat [] l.seat l.found.items
