-- What the walks over the blocks and the numbers of a group add to a list.
use Rattle.std.specs.Prelude.{◌≡◌, ℕ, ◌<◌, ◌+◌, Bool, true, false, List, Option, Some, None, is_some}
use Rattle.findings.specs.declared.finding.Finding.{Finding}
use Rattle.findings.specs.declared.finding.Finding.TheVariants.{LostBlock, UnmarkedBlock, LostNumber, UnmarkedInode}
use Rattle.model.specs.Layout.{Geometry, data_address, header_blocks}
use Rattle.model.specs.View.{View}
use Rattle.phase_blocks.specs.declared.parts.Claim.{Claim}
use Rattle.phase_blocks.specs.Owners.{owner_at}

-- whether a claim owns the data block of this bit
abbrev pub is_owned : List (Option Claim) → ℕ → Bool
is_owned owners bit = is_some (owner_at owners bit)

-- what is found of a number, by whether it is marked and whether its record is free
abbrev pub number_finding : Bool → Bool → ℕ → Option Finding
number_finding true true i = Some (LostNumber i)
number_finding false false i = Some (UnmarkedInode i)
number_finding _ _ i = None

-- what is found of a block, by whether it is marked and whether it is claimed
abbrev pub block_finding : Bool → Bool → ℕ → Option Finding
block_finding true false a = Some (LostBlock a)
block_finding false true a = Some (UnmarkedBlock a)
block_finding _ _ a = None

-- what is found of the data block of this bit, where the blocks of the bits that pass this test are claimed
abbrev pub IsFoundAt : Geometry → View → (ℕ → Bool) → ℕ → ℕ → Finding → Type 0
IsFoundAt geo view is_claimed g bit f =
    block_finding (view.block_marked (data_address geo g bit)) (is_claimed bit) (data_address geo g bit) ≡ Some f

-- what is found of the data blocks of a group
abbrev pub IsFoundInGroup : Geometry → View → (ℕ → Bool) → ℕ → Finding → Type 0
IsFoundInGroup geo view is_claimed g f = (bit : ℕ) × (header_blocks geo + bit < geo.blocks) × IsFoundAt geo view is_claimed g bit f
