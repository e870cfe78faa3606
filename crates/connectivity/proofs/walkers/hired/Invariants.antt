use Rattle.std.proofs.Common.{◌≡◌, ◌++◌, [], map, All}
use Rattle.connectivity.specs.Asked.{in_pieces}
use Rattle.connectivity.proofs.walkers.hired.Given as goal

abbrev pub invariant-loop-seat : goal.invariant-loop-seat
invariant-loop-seat l = record {
  rest : l.yielded ++ l.seat-iterator.rest.items ≡ l.fn.seats.items;
  seats : map (λ walker. walker.seat) l.walkers.items ≡ l.yielded;
  left : All (λ seat. seat.of ≡ l.walk.claims.now.id) l.seat-iterator.rest.items;
  alike : All (λ walker. (walker.walk.now.claims.now ≡ l.walk.claims.now) × (walker.walk.now.frozen.now ≡ l.walk.frozen.now) × (in_pieces walker.round.now walker.walk.now.pieces.now ≡ in_pieces l.round l.walk.pieces.now) × (walker.found.items ≡ [])) l.walkers.items;
}
