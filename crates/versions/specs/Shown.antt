-- What two views show, each in a version of the layout of its own.
use Rattle.std.specs.Prelude.{◌≡◌, ℕ, List, ◌↔◌}
use Rattle.model.specs.Layout.{Geometry}
use Rattle.model.specs.View.{View}
use Rattle.model.specs.Slots.{slot}
use Rattle.model.specs.Rules.{ObeysRules}
use Rattle.findings.specs.declared.finding.Finding.{Finding}
use Rattle.findings.specs.Findings.{IsFinding, AreFindings}
use Rattle.machine.specs.Cells.{seen}
use Rattle.machine.specs.Paths.{target}

-- a volume's numbers in this version of the layout
abbrev pub of_version : ℕ → Geometry → Geometry
of_version version geo = record geo { version = version }

-- The other view obeys the rules, and shows what the first one shows.
pub record ShowsTheSame (geo : Geometry) (view : View) (other : Geometry) (image : View) : Type 0 where
  pub obeys : ObeysRules other image
  -- the same is found, so the list of what is found is the same, and with it the report, the verdict and the repairs
  pub findings : (f : Finding) → IsFinding geo view f ↔ IsFinding other image f
  pub lists : (found : List Finding) → AreFindings geo view found ↔ AreFindings other image found
  -- each record says the same, each slot of a directory holds the same, and each path leads to the same number or is refused alike
  pub records : (i : ℕ) → view.inode i ≡ image.inode i
  pub slots : (d s : ℕ) → slot geo view d s ≡ slot other image d s
  pub paths : (parts : List (List ℕ)) → target geo view parts ≡ target other image parts
  -- each block of a file holds the same bytes
  pub files : (i k : ℕ) → seen geo view i k ≡ seen other image i k
