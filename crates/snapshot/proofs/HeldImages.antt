-- The images that a device held are mountable where each view of them obeys the rules.
use Rattle.std.proofs.Common.{◌≡◌, ℕ, List, [], ◌∷◌, All, Contains, Some, map, reverse, sym, subst}
use Rattle.std.proofs.lemmas.List.Elements.{All-cons, All-head, All-nil, All-pop, All-tail, All-weaker, All-contains_itself}
use Rattle.std.proofs.lemmas.List.{reverse-append}
use Rattle.model.specs.Image.{IsImage, image_view}
use Rattle.model.specs.Layout.{Geometry}
use Rattle.model.specs.Rules.{ObeysRules}
use Rattle.model.specs.View.{View}
use Rattle.live.specs.Mounting.{IsMountable}

module _ {X : Type 0} (P : X → Type 0) where
  all_reversed : (xs : List X) → All P (reverse xs) → All P xs
  all_reversed [] h = All-nil P
  all_reversed (x ∷ xs) h =
      let parts = All-pop P (reverse (x ∷ xs)) (reverse xs) (Some x) (reverse-append (x ∷ []) xs) h in
      All-cons P x xs parts.1 (all_reversed xs parts.0)

  all_mapped : {Y : Type 0} (f : Y → X) (ys : List Y) → All P (map f ys) → All (λ y. P (f y)) ys
  all_mapped f [] h = All-nil (λ y. P (f y))
  all_mapped f (y ∷ ys) h = All-cons (λ y. P (f y)) y ys (All-head P (f y) (map f ys) h) (all_mapped f ys (All-tail P (f y) (map f ys) h))

pub are_mountable : (geo : Geometry) (more : List (List (List ℕ))) (later : List View) → All (IsImage geo) more → reverse (map (image_view geo) more) ≡ later
    → ((view : View) → Contains later view → ObeysRules geo view) → All (IsMountable geo) more
are_mountable geo more later images views rules =
    let each : All (ObeysRules geo) later = All-weaker (Contains later) (ObeysRules geo) rules later (All-contains_itself later) in
    let obey = all_mapped (ObeysRules geo) (image_view geo) more (all_reversed (ObeysRules geo) (map (image_view geo) more) (subst (All (ObeysRules geo)) (sym views) each)) in
    λ k d low. record { is_image = images k d low; obeys = obey k d low }
