-- The parts of a phase's work, one for each group, or for each piece of the groups.
use Rattle.std.specs.Prelude.{◌≡◌, ℕ, ◌<◌, ◌≤◌, List, length, Option, Some, Result, Vec, IfOk, IsOkUnless, slice_get}
use Rattle.std.specs.declared.alloc.Global.{Global}
use Rattle.layout.specs.declared.refusal.Refusal.{Refusal}
use Rattle.layout.specs.declared.refusal.Refusal.TheVariants.{NoMemory}
use Rattle.findings.specs.declared.finding.Finding.{Finding}
use Rattle.findings.specs.Findings.{is_of_blocks, is_of_counts, is_of_maps}
use Rattle.model.specs.Reached.{AreReached}
use Rattle.model.specs.Layout.{Geometry, inode_count}
use Rattle.model.specs.Units.{only}
use Rattle.findings.specs.Groups.{AreFoundIn, IsEach}
use Rattle.frozen.specs.Kept.{Kept, frozen_view}
use Rattle.directories.specs.Named.{IsNamed}
use Rattle.directories.specs.declared.cutting.Piece.{Piece}
use Rattle.directories.specs.Pieces.{AreCut, AreOfPieces, Numbers, in_piece}
use Rattle.phase_blocks.specs.declared.parts.Claim.{Claim}
use Rattle.phase_blocks.specs.Owners.{AreGathered, AreOwners}
use Rattle.phase_blocks.specs.Parts as phase_blocks
use Rattle.phase_names.specs.Told as phase_names
use Rattle.refcounts.specs.Parts as refcounts

-- what the part of some numbers of an image is, in the phases that share the directories
abbrev pub is_names_part : Kept → Numbers → List (ℕ × phase_names.Told) → Type 0
is_names_part kept = phase_names.IsPart kept.geometry (frozen_view kept)

abbrev pub is_entries_part : Kept → Numbers → List (ℕ × List ℕ) → Type 0
is_entries_part kept = IsNamed kept.geometry (frozen_view kept) 2

abbrev pub is_counts_part : Kept → List ℕ → Numbers → List (List ℕ) → Type 0
is_counts_part kept reached = refcounts.IsPart kept.geometry (frozen_view kept) reached

-- what the part of a group is, in the first pass over the groups of phase 1
abbrev pub is_blocks_part : Kept → ℕ → phase_blocks.Gathered → Type 0
is_blocks_part kept unit = phase_blocks.IsPart kept.geometry (frozen_view kept) (only unit)

-- who owns the blocks of a group, and what phase 1 finds of it
abbrev pub is_owned : Kept → ℕ → List (Option Claim) → List Finding → Type 0
is_owned kept unit owners found =
    AreOwners kept.geometry (frozen_view kept) unit owners × AreFoundIn is_of_blocks kept.geometry (frozen_view kept) unit found

-- what phase 4 and phase 5 find of a group
abbrev pub are_links : Kept → ℕ → List Finding → Type 0
are_links kept unit found = AreFoundIn is_of_counts kept.geometry (frozen_view kept) unit found

abbrev pub are_maps : Kept → ℕ → List Finding → Type 0
are_maps kept unit found = AreFoundIn is_of_maps kept.geometry (frozen_view kept) unit found

-- the same of whatever unit, where each group has its part of the pass before
abbrev pub is_owned_of : Kept → List phase_blocks.Gathered → ℕ → List (Option Claim) → List Finding → Type 0
is_owned_of kept parts unit owners found = AreGathered kept.geometry (frozen_view kept) parts → unit < kept.geometry.groups → is_owned kept unit owners found

abbrev pub are_links_of : Kept → List ℕ → List (List (List ℕ)) → ℕ → List Finding → Type 0
are_links_of kept reached parts unit found = AreReached kept.geometry (frozen_view kept) reached
    → AreOfPieces (is_counts_part kept reached) (inode_count kept.geometry) parts → unit < kept.geometry.groups → are_links kept unit found

-- what phase 4 finds of a group, where these are the reachable inodes
abbrev pub are_links_if : Kept → List ℕ → ℕ → List Finding → Type 0
are_links_if kept reached unit found = AreReached kept.geometry (frozen_view kept) reached → are_links kept unit found

abbrev pub are_maps_of : Kept → List (List (Option Claim)) → ℕ → List Finding → Type 0
are_maps_of kept owners unit found = IsEach (AreOwners kept.geometry (frozen_view kept)) kept.geometry.groups owners → unit < kept.geometry.groups → are_maps kept unit found

-- The numbers of an image are cut in these pieces, which are no more than a check makes.
abbrev pub ArePiecesOf : Kept → List Piece → Type 0
ArePiecesOf kept pieces = AreCut 0 pieces (inode_count kept.geometry) × (length pieces ≤ 65537)

-- The part of a unit is that of its piece, where `is_part` says what the part of some numbers is.
abbrev pub IsOfPiece : {P : Type 0} → (Numbers → P → Type 0) → List Piece → ℕ → P → Type 0
IsOfPiece is_part pieces unit part = (piece : Piece) → slice_get pieces unit ≡ Some piece → is_part (in_piece piece) part

-- A worker makes of a unit what is its part, and stays as it is.
abbrev pub MakesItsOwn : {W P : Type 0} → (W → ℕ → P → W → Type 0) → (W → ℕ → P → Type 0) → Type 0
MakesItsOwn {W} {P} gives is_of = (before : W) (unit : ℕ) (part : P) (after : W) → gives before unit part after
    → is_of before unit part × (after ≡ before)

-- The parts of so many units were made, unless memory ran out.
pub record MakesParts {P : Type 0} (is_of : ℕ → P → Type 0) (units : ℕ)
    (result : Result (Vec P Global) Refusal) : Type 0 where
  pub made : IfOk result (λ parts. IsEach is_of units parts.items)
  pub error : IsOkUnless result NoMemory

-- The parts of pieces of all numbers were made, unless memory ran out.
pub record MakesPieces {P : Type 0} (is_part : Numbers → P → Type 0) (geo : Geometry)
    (result : Result (Vec P Global) Refusal) : Type 0 where
  pub made : IfOk result (λ parts. AreOfPieces is_part (inode_count geo) parts.items)
  pub error : IsOkUnless result NoMemory

-- The reachable inodes were found, unless memory ran out.
pub record Reaches (kept : Kept) (result : Result (List ℕ) Refusal) : Type 0 where
  pub reached : IfOk result (λ reached. AreReached kept.geometry (frozen_view kept) reached)
  pub error : IsOkUnless result NoMemory
