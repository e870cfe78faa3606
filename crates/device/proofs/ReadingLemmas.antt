-- Calls that only read, one after another.
use Rattle.std.proofs.Common.{◌≡◌, ℕ, List, ◌∙◌}
use Rattle.device.specs.Media.{Held}
use Rattle.device.specs.Reading.{ReadsOnly}

module _ {D : Type 0} {honest_of : D → Type 0} {image_of : D → List (List ℕ)} {held_of : D → Held} {first middle last : D} where
  pub reads_on : ReadsOnly honest_of image_of held_of first middle → ReadsOnly honest_of image_of held_of middle last → ReadsOnly honest_of image_of held_of first last
  reads_on before after = record { same = after.same ∙ before.same; held = after.held ∙ before.held; honest = λ h. before.honest (after.honest h) }
