-- What was loaded obeys the rules, or its image breaks one.
use Rattle.std.proofs.Common.{◌≡◌, ℕ, true, false, List, Option, Some, None, is_some, MatchOption}
use Rattle.findings.proofs.Soft.{rule_where_obeyed}
use Rattle.model.specs.Image.{image_view}
use Rattle.model.specs.Layout.{Geometry}
use Rattle.model.specs.Rules.{IsLeastBroken, ObeysRules}
use Rattle.model.specs.View.{View}
use Rattle.model.proofs.Same.{same_rules}
use Rattle.frozen.specs.Kept.{IsKeptOf, Kept, frozen_view}
use Rattle.rules.specs.Loading.{BreaksRule}

-- what is told by the least rule that is broken
pub obeyed : (geo : Geometry) (view : View) (least : Option ℕ) → MatchOption least (ObeysRules geo view) (IsLeastBroken geo view) → is_some least ≡ false → ObeysRules geo view
obeyed geo view None told e = told
obeyed geo view (Some n) told e = let bad : true ≡ false = e in cc

pub not_obeyed : (geo : Geometry) (view : View) (least : Option ℕ) → MatchOption least (ObeysRules geo view) (IsLeastBroken geo view) → is_some least ≡ true → ObeysRules geo view → ⊥
not_obeyed geo view None told e obeys = let bad : false ≡ true = e in cc
not_obeyed geo view (Some n) told e obeys = told.broken (rule_where_obeyed geo view obeys n)

pub breaks : (honest : Type 0) (image : List (List ℕ)) (kept : Kept) → (honest → IsKeptOf kept image) → (ObeysRules kept.geometry (frozen_view kept) → ⊥) → honest → BreaksRule image
breaks honest image kept of broken h = record {
  geometry = kept.geometry;
  is_image = (of h).is_image;
  breaks = λ obeys. broken ((same_rules kept.geometry (frozen_view kept) (image_view kept.geometry image) (of h).metadata).1 obeys);
}
