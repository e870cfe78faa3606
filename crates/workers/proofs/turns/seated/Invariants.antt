use Rattle.std.proofs.Common.{◌≡◌, ℕ, ◌+◌, ◌++◌, All, Some, length, slice_get, vec_len}
use Rattle.claims.specs.Seats.{new_seat}
use Rattle.workers.proofs.turns.seated.Given as goal

abbrev pub invariant-loop-work : goal.invariant-loop-work
invariant-loop-work g l = record {
  rest : l.yielded ++ l.work-iterator.rest.items ≡ l.fn.works.items;
  count : vec_len l.hands ≡ length l.yielded;
  seats : vec_len l.seats + length l.yielded ≡ vec_len l.fn.works;
  seats_fresh : All (λ seat. seat ≡ new_seat l.claims.id l.claims.units) l.seats.items;
  each : (i : ℕ) (work : _) → slice_get l.yielded i ≡ Some work → slice_get l.hands.items i ≡ Some (record { seat = new_seat l.claims.id l.claims.units; work = work });
  fresh : All (λ hand. hand.seat ≡ new_seat l.claims.id l.claims.units) l.hands.items;
}
