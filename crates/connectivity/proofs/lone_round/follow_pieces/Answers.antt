-- One piece more is gone over.
use Rattle.std.proofs.Common.{ℕ, [], List, IsTrue, sym, subst, arith}
use Rattle.std.proofs.lemmas.List.Elements.{All-contains}
use Rattle.frozen.specs.Kept.{frozen_view}
use Rattle.model.specs.Uses.{is_directory_at}
use Rattle.model.proofs.SlotLemmas.{directory_number, number_below}
use Rattle.connectivity.specs.Asked.{Asks, Round, asked_of, in_pieces}
use Rattle.connectivity.proofs.AskLemmas.{asks_append}
use Rattle.connectivity.proofs.LoneLemmas.{asked_below, asked_more, asked_alone}
use Rattle.connectivity.proofs.RunLemmas.{asked_somewhere}
use Rattle.connectivity.proofs.lone_round.follow_pieces.Goals as goal

pub loop-unit-preserved : goal.loop-unit-preserved
loop-unit-preserved g c =
    let geo = c.args.walk.now.frozen.now.geometry in
    let view = frozen_view c.args.walk.now.frozen.now in
    let round : Round = in_pieces c.args.round.now c.args.walk.now.pieces.now in
    let unit = c.loop-unit.unit in
    subst (λ (xs : List ℕ). Asks geo view xs c.args.seat.now [] c.follow.new.seat c.follow.new.found.items) (sym (asked_more geo view round unit))
    (asks_append geo view (asked_below geo view round unit) (asked_of geo view round unit) c.args.seat.now []
    c.loop-unit.seat c.loop-unit.found.items c.follow.new.seat c.follow.new.found.items c.loop-unit.invariant c.in_ok-follow.ensures.asked)

pub returns-clause-asked : goal.returns-clause-asked
returns-clause-asked g c =
    let geo = c.args.walk.now.frozen.now.geometry in
    let view = frozen_view c.args.walk.now.frozen.now in
    let round : Round = in_pieces c.args.round.now c.args.walk.now.pieces.now in
    asked_alone geo view round c.loop-unit.unit c.args.seat.now c.loop-unit.seat c.loop-unit.found.items
    (λ d i there named.
    let dir = All-contains (λ (d : ℕ). IsTrue (is_directory_at geo view d)) round.0 d c.requires.directories there in
    let unit = asked_somewhere geo view round c.requires.pieces d i (number_below geo d (directory_number geo view d dir)) there named in
    (unit.0, omega (arith, unit.1, c.loop-unit-test.false), unit.2))
    c.loop-unit.invariant
