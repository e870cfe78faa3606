-- How an image is refused that cannot be loaded or breaks a rule.
use Rattle.std.specs.Prelude.{ℕ, List}
use Rattle.layout.specs.declared.refusal.Refusal.{Refusal}
use Rattle.layout.specs.declared.refusal.Refusal.TheVariants.{Damaged}
use Rattle.model.specs.Image.{IsImage, image_view}
use Rattle.model.specs.Layout.{Geometry}
use Rattle.model.specs.Rules.{ObeysRules}
use Rattle.frozen.specs.Loading.{LoadRefuses}

-- it is an image that breaks a rule
pub record BreaksRule (image : List (List ℕ)) : Type 0 where
  pub geometry : Geometry
  pub is_image : IsImage geometry image
  pub breaks : ObeysRules geometry (image_view geometry image) → ⊥

-- An image that is read honestly is refused as damaged only where it breaks a rule, and else as one that cannot be loaded.
abbrev pub LoadSoundRefuses : Type 0 → List (List ℕ) → Refusal → Type 0
LoadSoundRefuses honest image Damaged = honest → BreaksRule image
LoadSoundRefuses honest image r = LoadRefuses honest image r
