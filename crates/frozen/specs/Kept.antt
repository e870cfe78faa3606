-- What is kept of an image for a check: its geometry, and some of its blocks by address.
use Rattle.std.specs.Prelude.{◌≡◌, ℕ, ◌<◌, Bool, not, ◌&&◌, nat_lt, List, [], length, Option, Some, None, IsTrue, IsSome, slice_index_or, unwrap_or}
use Rattle.model.specs.Layout.{Geometry, IsGeometry, block_count, group_block, is_data_address}
use Rattle.model.specs.View.{View, view_of}
use Rattle.model.specs.Shape.{is_table}
use Rattle.model.specs.Uses.{IsClaim, is_directory_at}
use Rattle.model.specs.Metadata.{SameMetadata}
use Rattle.model.specs.Image.{IsBlock, IsSuper, IsGroupBlock, IsImage, block_at, image_view}

pub record Kept : Type 0 where
  pub geometry : Geometry
  pub blocks : List (Option (List ℕ))

-- the block of this address, if it is kept
abbrev pub kept_at : List (Option (List ℕ)) → ℕ → Option (List ℕ)
kept_at blocks a = slice_index_or blocks a None

-- its bytes, and none where it is not kept
abbrev pub kept_bytes : List (Option (List ℕ)) → ℕ → List ℕ
kept_bytes blocks a = unwrap_or (kept_at blocks a) []

-- what the kept blocks hold
abbrev pub frozen_view : Kept → View
frozen_view kept = view_of kept.geometry (kept_bytes kept.blocks)

-- whether this is the address of a block that each volume has: its superblock, and each group's block of maps and blocks of inodes
abbrev pub is_frame : Geometry → ℕ → Bool
is_frame geo a = nat_lt a (block_count geo) && not (is_data_address geo a)

-- The frame of the volume is kept, and each of its blocks is what it has to be.
pub record KeepsFrame (kept : Kept) : Type 0 where
  pub geometry : IsGeometry kept.geometry
  pub count : length kept.blocks ≡ block_count kept.geometry
  pub whole : (a : ℕ) (b : List ℕ) → kept_at kept.blocks a ≡ Some b → IsBlock b
  pub frame : (a : ℕ) → IsTrue (is_frame kept.geometry a) → IsSome (kept_at kept.blocks a)
  pub first : IsSuper kept.geometry (kept_bytes kept.blocks 0)
  pub group_blocks : (g : ℕ) → g < kept.geometry.groups → IsGroupBlock g (kept_bytes kept.blocks (group_block kept.geometry g))

-- the block that inode i claims at position k is kept
abbrev pub KeepsClaim : Kept → ℕ → ℕ → Type 0
KeepsClaim kept i k = (a : ℕ) → IsClaim kept.geometry (frozen_view kept) i k a → IsSome (kept_at kept.blocks a)

-- the tables that inode i claims are kept, and those of all inodes
abbrev pub KeepsTablesOf : Kept → ℕ → Type 0
KeepsTablesOf kept i = (m : ℕ) → IsTrue (is_table kept.geometry m) → KeepsClaim kept i m

abbrev pub KeepsTables : Kept → Type 0
KeepsTables kept = (i : ℕ) → KeepsTablesOf kept i

-- the blocks that d claims are kept, if it is a sound directory
abbrev pub KeepsDirectory : Kept → ℕ → Type 0
KeepsDirectory kept d = IsTrue (is_directory_at kept.geometry (frozen_view kept) d) → (k : ℕ) → KeepsClaim kept d k

-- All that a check reads is kept: the frame, the claimed tables, and the claimed blocks of sound directories.
pub record KeepsMetadata (kept : Kept) : Type 0 where
  pub frame : KeepsFrame kept
  pub tables : KeepsTables kept
  pub directory_blocks : (d : ℕ) → KeepsDirectory kept d

-- The second one keeps all blocks that the first one keeps.
pub record KeepsMore (kept more : Kept) : Type 0 where
  pub geometry : more.geometry ≡ kept.geometry
  pub blocks : (a : ℕ) (b : List ℕ) → kept_at kept.blocks a ≡ Some b → kept_at more.blocks a ≡ Some b

-- The kept blocks are those of an image, and hold its metadata.
pub record IsKeptOf (kept : Kept) (image : List (List ℕ)) : Type 0 where
  pub is_image : IsImage kept.geometry image
  pub blocks : (a : ℕ) (b : List ℕ) → kept_at kept.blocks a ≡ Some b → b ≡ block_at image a
  pub metadata : SameMetadata kept.geometry (frozen_view kept) (image_view kept.geometry image)
