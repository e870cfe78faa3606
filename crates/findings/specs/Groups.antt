-- The cylinder group that a finding is of, and what is found of one group and of all.
use Rattle.std.specs.Prelude.{◌≡◌, ℕ, ◌/◌, Bool, List, length, Some, slice_get, ◌↔◌, IsTrue}
use Rattle.std.specs.List.{Contains}
use Rattle.findings.specs.declared.finding.Finding.{Finding}
use Rattle.findings.specs.declared.finding.Finding.TheVariants.{BadInode, BadPointer, Duplicate, RootBad, BadSlot, DupName, BadDot, BadDotDot, ToUnsound, ExtraName, LostInode, CountHigh, CountLow, LostBlock, UnmarkedBlock, LostNumber, UnmarkedInode}
use Rattle.findings.specs.Findings.{IsFinding}
use Rattle.model.specs.Layout.{Geometry, group_of_address}
use Rattle.model.specs.View.{View}

-- A finding that tells whose a block is, or how it is marked, is of the block's group, and any other of the group of its inode or directory.
abbrev pub group_of : Geometry → Finding → ℕ
group_of geo (BadInode i) = i / geo.inodes
group_of geo (BadPointer i k v) = i / geo.inodes
group_of geo (Duplicate i k a) = group_of_address geo a
group_of geo RootBad = 0
group_of geo (BadSlot d s) = d / geo.inodes
group_of geo (DupName d s) = d / geo.inodes
group_of geo (BadDot d) = d / geo.inodes
group_of geo (BadDotDot d) = d / geo.inodes
group_of geo (ToUnsound d s) = d / geo.inodes
group_of geo (ExtraName d s) = d / geo.inodes
group_of geo (LostInode i) = i / geo.inodes
group_of geo (CountHigh i l e) = i / geo.inodes
group_of geo (CountLow i l e) = i / geo.inodes
group_of geo (LostBlock a) = group_of_address geo a
group_of geo (UnmarkedBlock a) = group_of_address geo a
group_of geo (LostNumber i) = i / geo.inodes
group_of geo (UnmarkedInode i) = i / geo.inodes

-- fs are the findings of these kinds that are of group g, in any order and each at least once
abbrev pub AreFoundIn : (Finding → Bool) → Geometry → View → ℕ → List Finding → Type 0
AreFoundIn kinds geo view g fs = (f : Finding) → Contains fs f ↔ (IsTrue (kinds f) × (group_of geo f ≡ g) × IsFinding geo view f)

-- fs are the findings of these kinds, in any order and each at least once
abbrev pub AreFoundOf : (Finding → Bool) → Geometry → View → List Finding → Type 0
AreFoundOf kinds geo view fs = (f : Finding) → Contains fs f ↔ (IsTrue (kinds f) × IsFinding geo view f)

-- each group has its part, in order of the groups
pub record IsEach {P : Type 0} (is_of : ℕ → P → Type 0) (groups : ℕ) (parts : List P) : Type 0 where
  pub count : length parts ≡ groups
  pub each : (g : ℕ) (part : P) → slice_get parts g ≡ Some part → is_of g part
