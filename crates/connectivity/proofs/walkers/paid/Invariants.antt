use Rattle.std.proofs.Common.{◌≡◌, ◌++◌, map}
use Rattle.std.specs.List.{flat_map}
use Rattle.connectivity.proofs.walkers.paid.Given as goal

abbrev pub invariant-loop-walker : goal.invariant-loop-walker
invariant-loop-walker l = record {
  rest : l.yielded ++ l.walker-iterator.rest.items ≡ l.fn.walkers.items;
  seats : l.seats.items ≡ map (λ walker. walker.seat) l.yielded;
  found : l.all.items ≡ flat_map (λ walker. walker.found.items) l.yielded;
}
