-- All seats but the last ask for nothing.
use Rattle.std.proofs.Common.{◌++◌, ◌∷◌, [], List, sym, subst}
use Rattle.claims.specs.Seats.{Seated}
use Rattle.frozen.specs.Kept.{frozen_view}
use Rattle.connectivity.specs.Asked.{HaveAsked, Round, in_pieces}
use Rattle.connectivity.proofs.LoneLemmas.{asked_last}
use Rattle.connectivity.proofs.lone_round.lone_round.Goals as goal

pub returns-clause-asked : goal.returns-clause-asked
returns-clause-asked g c =
    let geo = c.args.walk.now.frozen.now.geometry in
    let view = frozen_view c.args.walk.now.frozen.now in
    let round : Round = in_pieces c.args.round.now c.args.walk.now.pieces.now in
    let others = c.pop.new.self.items in
    let found = c.in_ok-found.found.items in
    subst (λ (seats : List Seated). HaveAsked geo view round.0 seats c.push.new.self.items found) (sym c.in-Some.ensures.items)
    (subst (λ (seats : List Seated). HaveAsked geo view round.0 (others ++ c.in-Some.seat ∷ []) seats found) (sym c.in_ok-push.ensures.items)
    (asked_last geo view round others c.in-Some.seat c.follow_pieces.new.seat found c.in_ok-found.ensures.asked))
