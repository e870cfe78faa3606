-- Updates in the making, one more after the other.
use Rattle.std.proofs.Common.{◌≡◌, ℕ, List, [], ◌∷◌, ◌++◌, refl, ap, ◌∙◌, Some}
use Rattle.std.proofs.lemmas.List.Elements.{All-push}
use Rattle.model.specs.Layout.{Geometry}
use Rattle.ordering.specs.Cuts.{Pending}
use Rattle.updates.specs.declared.change.Update.{Update}
use Rattle.updates.specs.Places.{IsUpdate}
use Rattle.updates.specs.Values.{written}
use Rattle.live_states.specs.Drafts.{AreOf, Draft, GoesOn, over}

-- the last update is the newest
pub over_push : (q : List Pending) (us : List Update) (u : Update) → over q (us ++ u ∷ []) ≡ (written u).update ∷ over q us
over_push q [] u = refl
over_push q (v ∷ us) u = over_push ((written v).update ∷ q) us u

pub are_of_push : (geo : Geometry) (file : ℕ) (us : List Update) (u : Update) → AreOf geo file us → IsUpdate geo u → u.file ≡ Some file → AreOf geo file (us ++ u ∷ [])
are_of_push geo file us u are is named = record {
  cells = All-push (IsUpdate geo) us u are.cells is;
  named = All-push (λ (v : Update). v.file ≡ Some file) us u are.named named;
}

-- one step after the other
pub goes_then : (a b c : Draft) (f g : List Pending → List Pending) → GoesOn a b f → GoesOn b c g → GoesOn a c (λ q. g (f q))
goes_then a b c f g x y = record {
  geometry = y.geometry ∙ x.geometry;
  file = y.file ∙ x.file;
  pending = λ q. y.pending q ∙ ap g (x.pending q);
}

-- and the same step in other words
pub goes_as : (a b : Draft) (f g : List Pending → List Pending) → ((q : List Pending) → f q ≡ g q) → GoesOn a b f → GoesOn a b g
goes_as a b f g e x = record { geometry = x.geometry; file = x.file; pending = λ q. x.pending q ∙ e (over q a.updates) }
