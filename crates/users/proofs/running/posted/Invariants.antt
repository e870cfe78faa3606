use Rattle.std.proofs.Common.{◌≡◌, ◌+◌, ◌++◌, length, vec_len}
use Rattle.users.proofs.running.posted.Given as goal

abbrev pub invariant-loop-lines : goal.invariant-loop-lines
invariant-loop-lines g l = record {
  rest : l.yielded ++ l.lines-iterator.rest.items ≡ l.fn.users.items;
  count : vec_len l.posts ≡ length l.yielded;
  seats : vec_len l.seats + length l.yielded ≡ vec_len l.fn.seats;
}
