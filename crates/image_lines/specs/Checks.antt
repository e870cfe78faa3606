-- What a check tells of an image.
use Rattle.std.specs.Prelude.{ℕ, List}
use Rattle.fsck.specs.Checked.{CheckedImage, IsChecked}
use Rattle.model.specs.Image.{IsImage, image_view}
use Rattle.model.specs.Layout.{Geometry}

-- These blocks are an image, and the findings, the report, the verdict and the repairs are those of this image.
abbrev pub IsCheckOf : List (List ℕ) → CheckedImage → Type 0
IsCheckOf image checked = (geo : Geometry) × IsImage geo image × IsChecked geo (image_view geo image) checked
