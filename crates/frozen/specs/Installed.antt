-- Blocks that take the place of others, and blocks that are let go of.
use Rattle.std.specs.Prelude.{◌≡◌, ℕ, ◌<◌, List, [], ◌∷◌, None, Some, IsTrue, slice_set}
use Rattle.std.specs.Arc.{arc_value}
use Rattle.model.specs.Layout.{Geometry, block_count, group_block, is_data_address}
use Rattle.model.specs.Image.{IsBlock, IsGroupBlock}
use Rattle.model.specs.Shape.{is_table}
use Rattle.model.specs.Uses.{IsClaim, is_directory_at}
use Rattle.frozen.specs.declared.frozen.Placed.{Placed}
use Rattle.frozen.specs.Kept.{Kept, frozen_view}

-- A block may stand there: the superblock stays, and a group's block of maps has its magic and number.
pub record FitsAt (geo : Geometry) (a : ℕ) (bytes : List ℕ) : Type 0 where
  pub behind : 0 < a
  pub on_volume : a < block_count geo
  pub whole : IsBlock bytes
  pub group_block : (g : ℕ) → group_block geo g ≡ a → IsGroupBlock g bytes

-- what is kept with this block in its place
abbrev pub with_block : Kept → ℕ → List ℕ → Kept
with_block kept a bytes = record kept { blocks = slice_set kept.blocks a (Some bytes) }

-- and with all of these, each with its address, the first first
abbrev pub with_blocks : Kept → List (ℕ × List ℕ) → Kept
with_blocks kept [] = kept
with_blocks kept (b ∷ bs) = with_blocks (with_block kept b.0 b.1) bs

-- a block with its address
abbrev pub standing : Placed → ℕ × List ℕ
standing p = (p.address, arc_value p.block)

abbrev pub FitsIn : Geometry → Placed → Type 0
FitsIn geo p = FitsAt geo p.address (arc_value p.block)

-- what is kept without the block of this address
abbrev pub without_block : Kept → ℕ → Kept
without_block kept a = record kept { blocks = slice_set kept.blocks a None }

-- No metadata stands in this block: it is one of data, and neither a table of an inode nor a block of a directory.
pub record IsPlain (kept : Kept) (a : ℕ) : Type 0 where
  pub of_data : IsTrue (is_data_address kept.geometry a)
  pub no_table : (i m : ℕ) → IsTrue (is_table kept.geometry m) → IsClaim kept.geometry (frozen_view kept) i m a → ⊥
  pub no_directory : (d k : ℕ) → IsTrue (is_directory_at kept.geometry (frozen_view kept) d) → IsClaim kept.geometry (frozen_view kept) d k a → ⊥
