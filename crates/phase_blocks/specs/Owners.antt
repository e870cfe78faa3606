-- Which claim owns each data block of a cylinder group.
use Rattle.std.specs.Prelude.{◌≡◌, ℕ, ◌+◌, ◌<◌, List, length, Option, Some, None, slice_index_or, ◌↔◌, IsTrue}
use Rattle.std.specs.List.{Contains}
use Rattle.findings.specs.declared.finding.Finding.{Finding}
use Rattle.findings.specs.declared.finding.Finding.TheVariants.{Duplicate}
use Rattle.model.specs.Layout.{Geometry, data_address, group_of_address, header_blocks, is_data_address}
use Rattle.model.specs.View.{View}
use Rattle.model.specs.Uses.{Before, IsClaimed, IsOwner}
use Rattle.model.specs.Units.{only}
use Rattle.findings.specs.Groups.{IsEach}
use Rattle.phase_blocks.specs.declared.parts.Claim.{Claim}
use Rattle.phase_blocks.specs.Parts.{Gathered, IsPart}

-- each group has its part, in order of the groups
abbrev pub AreGathered : Geometry → View → List Gathered → Type 0
AreGathered geo view parts = IsEach (λ g. IsPart geo view (only g)) geo.groups parts

-- the claim at a place, and none past the last
abbrev pub owner_at : List (Option Claim) → ℕ → Option Claim
owner_at owners bit = slice_index_or owners bit None

-- There is a place for each data block of group g, by its bit, and it holds the claim that owns the block, if one does.
pub record AreOwners (geo : Geometry) (view : View) (g : ℕ) (owners : List (Option Claim)) : Type 0 where
  pub places : header_blocks geo + length owners ≡ geo.blocks
  pub owned : (bit : ℕ) (c : Claim) → owner_at owners bit ≡ Some c → (c.block ≡ data_address geo g bit) × IsOwner geo view c.block c.inode c.position
  pub free : (bit : ℕ) → header_blocks geo + bit < geo.blocks → owner_at owners bit ≡ None → IsClaimed geo view (data_address geo g bit) → ⊥

-- the block is a data block of group g
abbrev pub StandsIn : Geometry → ℕ → ℕ → Type 0
StandsIn geo g a = IsTrue (is_data_address geo a) × (group_of_address geo a ≡ g)

-- the finding that a claim of a block of group g is a duplicate: P holds of it, and of an earlier claim of its block
abbrev pub IsRepeatedIn : Geometry → ℕ → (Claim → Type 0) → Finding → Type 0
IsRepeatedIn geo g P (Duplicate i k a) =
    StandsIn geo g a × P (record { block = a; inode = i; position = k }) × (j : ℕ) × (l : ℕ) × P (record { block = a; inode = j; position = l }) × Before j l i k
IsRepeatedIn geo g P _ = ⊥

-- a table that is filled: for group g, who owns each block so far, and the claims that an earlier one came before
pub record Filled : Type 0 where
  pub geometry : Geometry
  pub group : ℕ
  pub owners : List (Option Claim)
  pub found : List Finding

-- The table is filled from the claims of which P holds: in each place stands the first of those of its block.
pub record Holds (geo : Geometry) (g : ℕ) (P : Claim → Type 0) (owners : List (Option Claim)) (found : List Finding) : Type 0 where
  pub owned : (bit : ℕ) (c : Claim) → owner_at owners bit ≡ Some c → (header_blocks geo + bit < geo.blocks) × (c.block ≡ data_address geo g bit) × P c
  pub least : (bit : ℕ) (c : Claim) → owner_at owners bit ≡ Some c → (d : Claim) → P d → d.block ≡ c.block → Before d.inode d.position c.inode c.position → ⊥
  pub free : (bit : ℕ) → header_blocks geo + bit < geo.blocks → owner_at owners bit ≡ None → (d : Claim) → P d → d.block ≡ data_address geo g bit → ⊥
  pub repeated : (f : Finding) → Contains found f ↔ IsRepeatedIn geo g P f

-- the same table, of the claims in a list
abbrev pub HoldsOf : List Claim → Filled → Type 0
HoldsOf seen table = Holds table.geometry table.group (Contains seen) table.owners table.found
