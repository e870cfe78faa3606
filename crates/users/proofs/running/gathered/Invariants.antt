use Rattle.std.proofs.Common.{◌≡◌, ◌++◌, length, vec_len}
use Rattle.users.proofs.running.gathered.Given as goal

abbrev pub invariant-loop-seat : goal.invariant-loop-seat
invariant-loop-seat g l = record {
  rest : l.yielded ++ l.seat-iterator.rest.items ≡ l.fn.left.items;
  count : vec_len l.seats ≡ length l.yielded;
}
