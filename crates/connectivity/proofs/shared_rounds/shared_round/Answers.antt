-- What all workers asked for is what the directories of the round name.
use Rattle.std.proofs.Common.{◌≡◌, ℕ, ◌<◌, [], List, map, Some, slice_get, Contains, IsTrue, sym, subst, length}
use Rattle.std.proofs.lemmas.List.Elements.{All-same, All-map, All-contains}
use Rattle.claims.specs.Seats.{Seated}
use Rattle.frozen.specs.Kept.{frozen_view}
use Rattle.model.specs.Uses.{is_directory_at}
use Rattle.model.proofs.SlotLemmas.{directory_number, number_below}
use Rattle.model.specs.Named.{named_from}
use Rattle.connectivity.specs.Asked.{HaveAsked, Round, asked_of, in_pieces}
use Rattle.connectivity.specs.declared.walkers.Walker.{Walker}
use Rattle.connectivity.proofs.RunLemmas.{after_own, all_asked, asked_somewhere}
use Rattle.connectivity.proofs.SharedLemmas.{all_at}
use Rattle.connectivity.proofs.shared_rounds.shared_round.Goals as goal

pub returns-clause-own : goal.returns-clause-own
returns-clause-own g c =
    All-same (λ (s : Seated). s.of ≡ c.args.walk.now.claims.now.id) c.in_ok-paid.field-0.0.items (map (λ (w : Walker). w.seat) c.in_ok-_parts.walkers.items) c.in_ok-paid.ensures.seats
    (All-map (λ (s : Seated). s.of ≡ c.args.walk.now.claims.now.id) (λ (w : Walker). w.seat) c.in_ok-_parts.walkers.items
    (after_own (λ (w : Walker). w.walk.now.claims.now) (λ (w : Walker). w.walk.now.frozen.now) (λ (w : Walker). in_pieces w.round.now w.walk.now.pieces.now) (λ (w : Walker). w.seat) (λ (w : Walker). w.found.items)
    (length c.args.walk.now.pieces.now) c.in_ok-walkers.walkers.items c.in_ok-_parts._parts.items c.in_ok-_parts.walkers.items c.in_ok-_parts.ensures.done c.args.walk.now.claims.now
    (λ w before h. (all_at (λ (w : Walker). (w.walk.now.claims.now ≡ c.args.walk.now.claims.now) × (w.walk.now.frozen.now ≡ c.args.walk.now.frozen.now) × (in_pieces w.round.now w.walk.now.pieces.now ≡ in_pieces c.args.round.now c.args.walk.now.pieces.now) × (w.found.items ≡ [])) c.in_ok-walkers.walkers.items c.in_ok-walkers.ensures.alike w before h).0)
    (λ after. after.own)))

pub returns-clause-asked : goal.returns-clause-asked
returns-clause-asked g c =
    let kept = c.args.walk.now.frozen.now in
    let geo = kept.geometry in
    let view = frozen_view kept in
    let round : Round = in_pieces c.args.round.now c.args.walk.now.pieces.now in
    let has_unit : (d i : ℕ) → Contains round.0 d → Contains (named_from geo view 2 d) i → (unit : ℕ) × (unit < length c.args.walk.now.pieces.now) × Contains (asked_of geo view round unit) i = λ d i there named.
    (let dir = All-contains (λ (d : ℕ). IsTrue (is_directory_at geo view d)) c.args.round.now d c.requires.directories there in
    asked_somewhere geo view round c.requires.pieces d i (number_below geo d (directory_number geo view d dir)) there named) in
    let alike : (w : ℕ) (before : Walker) → slice_get c.in_ok-walkers.walkers.items w ≡ Some before → (before.walk.now.frozen.now ≡ kept) × (in_pieces before.round.now before.walk.now.pieces.now ≡ in_pieces c.args.round.now c.args.walk.now.pieces.now) × (before.found.items ≡ []) = λ w before h.
    (let all = all_at (λ (w : Walker). (w.walk.now.claims.now ≡ c.args.walk.now.claims.now) × (w.walk.now.frozen.now ≡ c.args.walk.now.frozen.now) × (in_pieces w.round.now w.walk.now.pieces.now ≡ in_pieces c.args.round.now c.args.walk.now.pieces.now) × (w.found.items ≡ [])) c.in_ok-walkers.walkers.items c.in_ok-walkers.ensures.alike w before h in (all.1, all.2, all.3)) in
    let all = all_asked (λ (w : Walker). w.walk.now.claims.now) (λ (w : Walker). w.walk.now.frozen.now) (λ (w : Walker). in_pieces w.round.now w.walk.now.pieces.now) (λ (w : Walker). w.seat) (λ (w : Walker). w.found.items)
    kept round (length c.args.walk.now.pieces.now) c.in_ok-walkers.walkers.items c.in_ok-_parts._parts.items c.in_ok-_parts.walkers.items c.in_ok-_parts.ensures.done alike has_unit in
    subst (λ (seats : List Seated). HaveAsked geo view c.args.round.now seats c.in_ok-paid.field-0.0.items c.in_ok-paid.field-0.1.items) c.in_ok-walkers.ensures.seats
    (subst (λ (seats : List Seated). HaveAsked geo view c.args.round.now (map (λ (w : Walker). w.seat) c.in_ok-walkers.walkers.items) seats c.in_ok-paid.field-0.1.items) (sym c.in_ok-paid.ensures.seats)
    (subst (λ (found : List ℕ). HaveAsked geo view c.args.round.now (map (λ (w : Walker). w.seat) c.in_ok-walkers.walkers.items) (map (λ (w : Walker). w.seat) c.in_ok-_parts.walkers.items) found) (sym c.in_ok-paid.ensures.found) all))
