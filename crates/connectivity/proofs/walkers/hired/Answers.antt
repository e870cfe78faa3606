-- One worker more has its seat.
use Rattle.std.proofs.Common.{◌≡◌, ◌++◌, ◌∷◌, [], All, List, map, refl, sym, ap, ◌∙◌, subst, append_assoc}
use Rattle.std.proofs.lemmas.List.{map-append}
use Rattle.std.proofs.lemmas.List.Elements.{All-push, All-rest}
use Rattle.claims.specs.Seats.{Seated}
use Rattle.connectivity.specs.declared.walkers.Walker.{Walker}
use Rattle.connectivity.specs.Asked.{in_pieces}
use Rattle.connectivity.proofs.walkers.hired.Goals as goal

pub loop-seat-preserved : goal.loop-seat-preserved
loop-seat-preserved c =
    let inv = c.loop-seat.invariant in
    let whole = ap (λ (es : List Seated). c.loop-seat.yielded ++ es) (sym c.in-Some.ensures.steps.0) ∙ inv.rest in
    let added = c.in_ok-push.ensures.items in
    record {
      rest = append_assoc c.loop-seat.yielded (c.in-Some.seat ∷ []) c.next.new.self.rest.items ∙ whole;
      seats = ap (map (λ (w : Walker). w.seat)) added ∙ map-append (λ (w : Walker). w.seat) c.loop-seat.walkers.items (_ ∷ []) ∙ ap (λ (s : List Seated). s ++ c.in-Some.seat ∷ []) inv.seats;
      left = All-rest (λ (s : Seated). s.of ≡ c.args.walk.now.claims.now.id) c.in-Some.seat c.next.new.self.rest.items c.loop-seat.seat-iterator.rest.items c.in-Some.ensures.steps.0 inv.left;
      alike = subst (All (λ (w : Walker). (w.walk.now.claims.now ≡ c.args.walk.now.claims.now) × (w.walk.now.frozen.now ≡ c.args.walk.now.frozen.now) × (in_pieces w.round.now w.walk.now.pieces.now ≡ in_pieces c.args.round.now c.args.walk.now.pieces.now) × (w.found.items ≡ []))) (sym added)
          (All-push (λ (w : Walker). (w.walk.now.claims.now ≡ c.args.walk.now.claims.now) × (w.walk.now.frozen.now ≡ c.args.walk.now.frozen.now) × (in_pieces w.round.now w.walk.now.pieces.now ≡ in_pieces c.args.round.now c.args.walk.now.pieces.now) × (w.found.items ≡ [])) c.loop-seat.walkers.items _ inv.alike
          (refl, refl, refl, c.new.ensures.items));
    }
