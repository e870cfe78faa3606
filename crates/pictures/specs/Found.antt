-- What a check finds of a block.
use Rattle.std.specs.Prelude.{ℕ}
use Rattle.findings.specs.Findings.{IsFinding}
use Rattle.findings.specs.declared.finding.Finding.TheVariants.{Duplicate, LostBlock}
use Rattle.model.specs.Layout.{Geometry}
use Rattle.model.specs.View.{View}

-- that it is lost
abbrev pub IsFoundLost : Geometry → View → ℕ → Type 0
IsFoundLost geo view a = IsFinding geo view (LostBlock a)

-- that some claim of it is a duplicate
abbrev pub IsFoundDuplicate : Geometry → View → ℕ → Type 0
IsFoundDuplicate geo view a = (i : ℕ) × (k : ℕ) × IsFinding geo view (Duplicate i k a)
