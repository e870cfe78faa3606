-- What phase 5 finds of the numbers of some inodes.
use Rattle.std.specs.Prelude.{ℕ, Bool, false, IsTrue}
use Rattle.findings.specs.declared.finding.Finding.{Finding}
use Rattle.findings.specs.declared.finding.Finding.TheVariants.{LostNumber, UnmarkedInode}
use Rattle.findings.specs.Findings.{IsFinding}
use Rattle.model.specs.Layout.{Geometry}
use Rattle.model.specs.View.{View}

-- whether a finding is of the number of an inode of the set
abbrev pub is_of_number_in : (ℕ → Bool) → Finding → Bool
is_of_number_in inodes (LostNumber i) = inodes i
is_of_number_in inodes (UnmarkedInode i) = inodes i
is_of_number_in inodes _ = false

-- f is found of the number of an inode of the set
abbrev pub IsFoundOfNumbers : Geometry → View → (ℕ → Bool) → Finding → Type 0
IsFoundOfNumbers geo view inodes f = IsTrue (is_of_number_in inodes f) × IsFinding geo view f
