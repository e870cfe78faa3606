use Rattle.std.proofs.Common.{◌≡◌, All, vec_len}
use Rattle.frozen.specs.Kept.{frozen_view}
use Rattle.connectivity.specs.Asked.{IsSharedWalk}
use Rattle.connectivity.proofs.shared_rounds.all_rounds.Given as goal

abbrev pub invariant-loop-number : goal.invariant-loop-number
invariant-loop-number g l = record {
  own : All (λ seat. seat.of ≡ l.walk.claims.now.id) l.seats.items;
  count : vec_len l.seats ≡ vec_len l.fn.seats;
  walk : IsSharedWalk l.walk.frozen.now.geometry (frozen_view l.walk.frozen.now) l.walk.claims.now.opening l.seats.items l.round.items l.number;
}
