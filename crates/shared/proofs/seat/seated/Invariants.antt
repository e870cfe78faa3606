use Rattle.std.specs.Prelude.{◌≡◌, ◌+◌, All, vec_len}
use Rattle.shared.proofs.seat.seated.Given as goal

abbrev pub invariant-loop : goal.invariant-loop
invariant-loop g l =
    (l.repairs.parts + l.counter ≡ l.seats) × (l.repairs.amount ≡ 0) × (l.others.parts + l.counter ≡ l.seats) × (l.others.amount ≡ 0)
    × (vec_len l.seated ≡ l.counter) × All (λ seat. (seat.repairs.amount ≡ 0) × (seat.others.amount ≡ 0)) l.seated.items
