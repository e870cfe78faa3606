-- Each worker's turns are its calls for the units that it drew.
use Rattle.std.proofs.Common.{◌≡◌, ℕ, ◌<◌, length, Some, slice_get, sym, ap, ◌∙◌, arith}
use Rattle.claims.specs.Seats.{new_seat}
use Rattle.workers.specs.Turns.{HasDone}
use Rattle.workers.proofs.GroupLemmas.{all_own, all_rising, each_once, all_done}
use Rattle.workers.proofs.each_group.Goals as goal

pub gather-requires-clause-own : goal.gather-requires-clause-own
gather-requires-clause-own g c =
    let hand_at : (w : ℕ) (before : _) (list : _) (seat : _) (after : _) → slice_get c.args.works.items w ≡ Some before → slice_get c.in_ok-lists.field-0.lists.items w ≡ Some list
    → slice_get c.in_ok-lists.field-0.seats.items w ≡ Some seat → slice_get c.in_ok-lists.field-0.works.items w ≡ Some after
    → HasDone g.W.Work.gives c.in_ok-claims.claims before list.items after seat = λ w before list seat after h k l e.
    c.in_ok-turns.ensures.each w (record { seat = new_seat c.in_ok-claims.claims.id c.in_ok-claims.claims.units; work = before }) (record { seat = seat; work = after; calls = list })
    (c.in_ok-hands.ensures.each w before h) (c.in_ok-lists.ensures.each w list seat after k l e) in
    let many = c.in_ok-turns.ensures.count ∙ c.in_ok-hands.ensures.count ∙ c.args.works.ok.0 in
    let m : length c.in_ok-lists.field-0.lists.items ≡ length c.args.works.items = sym c.in_ok-lists.field-0.lists.ok.0 ∙ c.in_ok-lists.ensures.lists ∙ many in
    let n : length c.in_ok-lists.field-0.seats.items ≡ length c.args.works.items = sym c.in_ok-lists.field-0.seats.ok.0 ∙ c.in_ok-lists.ensures.seats ∙ many in
    let o : length c.in_ok-lists.field-0.works.items ≡ length c.args.works.items = sym c.in_ok-lists.field-0.works.ok.0 ∙ c.in_ok-lists.ensures.works ∙ many in
    all_own g.W.Work.gives c.in_ok-claims.claims c.args.works.items c.in_ok-lists.field-0.lists.items c.in_ok-lists.field-0.seats.items c.in_ok-lists.field-0.works.items m n o hand_at

pub in_order-requires-clause-once : goal.in_order-requires-clause-once
in_order-requires-clause-once g c =
    let hand_at : (w : ℕ) (before : _) (list : _) (seat : _) (after : _) → slice_get c.args.works.items w ≡ Some before → slice_get c.in_ok-lists.field-0.lists.items w ≡ Some list
    → slice_get c.in_ok-lists.field-0.seats.items w ≡ Some seat → slice_get c.in_ok-lists.field-0.works.items w ≡ Some after
    → HasDone g.W.Work.gives c.in_ok-claims.claims before list.items after seat = λ w before list seat after h k l e.
    c.in_ok-turns.ensures.each w (record { seat = new_seat c.in_ok-claims.claims.id c.in_ok-claims.claims.units; work = before }) (record { seat = seat; work = after; calls = list })
    (c.in_ok-hands.ensures.each w before h) (c.in_ok-lists.ensures.each w list seat after k l e) in
    let many = c.in_ok-turns.ensures.count ∙ c.in_ok-hands.ensures.count ∙ c.args.works.ok.0 in
    let m : length c.in_ok-lists.field-0.lists.items ≡ length c.args.works.items = sym c.in_ok-lists.field-0.lists.ok.0 ∙ c.in_ok-lists.ensures.lists ∙ many in
    let n : length c.in_ok-lists.field-0.seats.items ≡ length c.args.works.items = sym c.in_ok-lists.field-0.seats.ok.0 ∙ c.in_ok-lists.ensures.seats ∙ many in
    let o : length c.in_ok-lists.field-0.works.items ≡ length c.args.works.items = sym c.in_ok-lists.field-0.works.ok.0 ∙ c.in_ok-lists.ensures.works ∙ many in
    let someone : 0 < length c.args.works.items = omega (arith, c.count.ensures.some, c.count.ensures.count, c.in_ok-workers.ensures.made, ap length c.as_slice.ensures.value) in
    each_once g.W.Work.gives c.in_ok-claims.claims c.args.works.items c.in_ok-lists.field-0.lists.items c.in_ok-lists.field-0.seats.items c.in_ok-lists.field-0.works.items m n o hand_at c.args.units someone c.in_ok-gather.ensures.back c.in_ok-claims.ensures.units

pub in_order-requires-clause-rising : goal.in_order-requires-clause-rising
in_order-requires-clause-rising g c =
    let hand_at : (w : ℕ) (before : _) (list : _) (seat : _) (after : _) → slice_get c.args.works.items w ≡ Some before → slice_get c.in_ok-lists.field-0.lists.items w ≡ Some list
    → slice_get c.in_ok-lists.field-0.seats.items w ≡ Some seat → slice_get c.in_ok-lists.field-0.works.items w ≡ Some after
    → HasDone g.W.Work.gives c.in_ok-claims.claims before list.items after seat = λ w before list seat after h k l e.
    c.in_ok-turns.ensures.each w (record { seat = new_seat c.in_ok-claims.claims.id c.in_ok-claims.claims.units; work = before }) (record { seat = seat; work = after; calls = list })
    (c.in_ok-hands.ensures.each w before h) (c.in_ok-lists.ensures.each w list seat after k l e) in
    let many = c.in_ok-turns.ensures.count ∙ c.in_ok-hands.ensures.count ∙ c.args.works.ok.0 in
    let m : length c.in_ok-lists.field-0.lists.items ≡ length c.args.works.items = sym c.in_ok-lists.field-0.lists.ok.0 ∙ c.in_ok-lists.ensures.lists ∙ many in
    let n : length c.in_ok-lists.field-0.seats.items ≡ length c.args.works.items = sym c.in_ok-lists.field-0.seats.ok.0 ∙ c.in_ok-lists.ensures.seats ∙ many in
    let o : length c.in_ok-lists.field-0.works.items ≡ length c.args.works.items = sym c.in_ok-lists.field-0.works.ok.0 ∙ c.in_ok-lists.ensures.works ∙ many in
    all_rising g.W.Work.gives c.in_ok-claims.claims c.args.works.items c.in_ok-lists.field-0.lists.items c.in_ok-lists.field-0.seats.items c.in_ok-lists.field-0.works.items m n o hand_at

pub returns-clause-done : goal.returns-clause-done
returns-clause-done g c =
    let hand_at : (w : ℕ) (before : _) (list : _) (seat : _) (after : _) → slice_get c.args.works.items w ≡ Some before → slice_get c.in_ok-lists.field-0.lists.items w ≡ Some list
    → slice_get c.in_ok-lists.field-0.seats.items w ≡ Some seat → slice_get c.in_ok-lists.field-0.works.items w ≡ Some after
    → HasDone g.W.Work.gives c.in_ok-claims.claims before list.items after seat = λ w before list seat after h k l e.
    c.in_ok-turns.ensures.each w (record { seat = new_seat c.in_ok-claims.claims.id c.in_ok-claims.claims.units; work = before }) (record { seat = seat; work = after; calls = list })
    (c.in_ok-hands.ensures.each w before h) (c.in_ok-lists.ensures.each w list seat after k l e) in
    let many = c.in_ok-turns.ensures.count ∙ c.in_ok-hands.ensures.count ∙ c.args.works.ok.0 in
    let m : length c.in_ok-lists.field-0.lists.items ≡ length c.args.works.items = sym c.in_ok-lists.field-0.lists.ok.0 ∙ c.in_ok-lists.ensures.lists ∙ many in
    let n : length c.in_ok-lists.field-0.seats.items ≡ length c.args.works.items = sym c.in_ok-lists.field-0.seats.ok.0 ∙ c.in_ok-lists.ensures.seats ∙ many in
    let o : length c.in_ok-lists.field-0.works.items ≡ length c.args.works.items = sym c.in_ok-lists.field-0.works.ok.0 ∙ c.in_ok-lists.ensures.works ∙ many in
    let someone : 0 < length c.args.works.items = omega (arith, c.count.ensures.some, c.count.ensures.count, c.in_ok-workers.ensures.made, ap length c.as_slice.ensures.value) in
    all_done g.W.Work.gives c.in_ok-claims.claims c.args.works.items c.in_ok-lists.field-0.lists.items c.in_ok-lists.field-0.seats.items c.in_ok-lists.field-0.works.items m n o hand_at c.args.units c.in_ok-in_order.field-0.items someone (sym c.in_ok-in_order.field-0.ok.0 ∙ c.in_ok-in_order.ensures.units) c.in_ok-in_order.ensures.dealt
