-- The claims of an image one after another, in order of their inodes and positions.
use Rattle.std.specs.Prelude.{ℕ, List}
use Rattle.model.specs.Layout.{Geometry}
use Rattle.model.specs.View.{View}
use Rattle.model.specs.Uses.{Before, IsClaim}
use Rattle.pictures.specs.Uses.{IsUsedBy, ShowEach}
use Rattle.pictures.specs.declared.uses.Use.{Use}
use Rattle.pictures.specs.declared.uses.Use.TheVariants.{Free, Lost, Duplicate}

-- inode j claims block a at position l, and that comes before position k of inode i
abbrev pub claims_before : Geometry → View → ℕ → ℕ → ℕ → ℕ → ℕ → Type 0
claims_before geo view i k a j l = IsClaim geo view j l a × Before j l i k

-- the cells show what the blocks are used for, as the claims before position k of inode i tell it
abbrev pub ShowBefore : Geometry → View → ℕ → ℕ → List Use → Type 0
ShowBefore geo view i k cells = ShowEach geo (λ a. IsUsedBy geo view (claims_before geo view i k a) a) cells

-- what a data block is used for that is claimed once more, for this purpose
abbrev pub claimed_again : Use → Use → Use
claimed_again Free purpose = purpose
claimed_again Lost purpose = purpose
claimed_again _ purpose = Duplicate
