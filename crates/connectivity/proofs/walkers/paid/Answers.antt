-- One worker more is paid.
use Rattle.std.proofs.Common.{ℕ, ◌++◌, ◌∷◌, [], List, sym, ap, ◌∙◌, append_assoc}
use Rattle.std.proofs.lemmas.List.{map-append, append-nil}
use Rattle.std.proofs.lemmas.Grind.{flat_map-append}
use Rattle.std.specs.List.{flat_map}
use Rattle.claims.specs.Seats.{Seated}
use Rattle.connectivity.specs.declared.walkers.Walker.{Walker}
use Rattle.connectivity.proofs.walkers.paid.Goals as goal

pub loop-walker-preserved : goal.loop-walker-preserved
loop-walker-preserved c =
    let inv = c.loop-walker.invariant in
    let whole = ap (λ (es : List Walker). c.loop-walker.yielded ++ es) (sym c.in-Some.ensures.steps.0) ∙ inv.rest in
    record {
      rest = append_assoc c.loop-walker.yielded (c.in-Some.walker ∷ []) c.next.new.self.rest.items ∙ whole;
      seats = c.in_ok-push.ensures.items ∙ ap (λ (s : List Seated). s ++ c.in-Some.walker.seat ∷ []) inv.seats ∙ sym (map-append (λ (w : Walker). w.seat) c.loop-walker.yielded (c.in-Some.walker ∷ []));
      found = c.in_ok-append.ensures.items ∙ ap (λ (f : List ℕ). f ++ c.in-Some.walker.found.items) inv.found
          ∙ ap (λ (f : List ℕ). flat_map (λ (w : Walker). w.found.items) c.loop-walker.yielded ++ f) (sym (append-nil c.in-Some.walker.found.items))
          ∙ sym (flat_map-append (λ (w : Walker). w.found.items) c.loop-walker.yielded (c.in-Some.walker ∷ []));
    }
