use Rattle.std.proofs.Common.{◌≡◌, ℕ, ◌++◌, Ok, Some, length, slice_get, vec_len}
use Rattle.workers.proofs.merging.settled.Given as goal

abbrev pub invariant-loop-turn : goal.invariant-loop-turn
invariant-loop-turn g l = record {
  rest : l.yielded ++ l.turn-iterator.rest.items ≡ l.fn.turns.items;
  lists : vec_len l.apart.lists ≡ length l.yielded;
  seats : vec_len l.apart.seats ≡ length l.yielded;
  works : vec_len l.apart.works ≡ length l.yielded;
  each : (i : ℕ) (list : _) (seat : _) (work : _) → slice_get l.apart.lists.items i ≡ Some list → slice_get l.apart.seats.items i ≡ Some seat → slice_get l.apart.works.items i ≡ Some work
      → slice_get l.yielded i ≡ Some (Ok (record { seat = seat; work = work; calls = list }));
}
