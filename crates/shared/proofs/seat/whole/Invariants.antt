use Rattle.std.specs.Prelude.{◌≡◌, ◌+◌, vec_len}
use Rattle.std.specs.List.{sum_by}
use Rattle.shared.proofs.seat.whole.Given as goal

abbrev pub invariant-loop-seat : goal.invariant-loop-seat
invariant-loop-seat g l =
    (l.all_repairs.parts + vec_len l.seats ≡ vec_len l.fn.seats)
    × (l.all_repairs.amount + sum_by (λ seat. seat.repairs.amount) l.seats.items ≡ sum_by (λ seat. seat.repairs.amount) l.fn.seats.items)
    × (l.all_others.parts + vec_len l.seats ≡ vec_len l.fn.seats)
    × (l.all_others.amount + sum_by (λ seat. seat.others.amount) l.seats.items ≡ sum_by (λ seat. seat.others.amount) l.fn.seats.items)

abbrev pub decreases-loop-seat : goal.decreases-loop-seat
decreases-loop-seat g l = goal.left-loop-seat g l
