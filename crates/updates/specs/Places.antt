-- The cells of a volume, and a place for each of them in one table.
use Rattle.std.specs.Prelude.{ℕ, ◌+◌, ◌*◌, IsTrue}
use Rattle.std.specs.List.{All}
use Rattle.model.specs.Layout.{Geometry, is_number, is_data_address, inode_count, block_count}
use Rattle.model.specs.View.{Fits}
use Rattle.model.specs.Cells as model
use Rattle.ordering.specs.Cuts.{Cell, Record, NumberBit, BlockBit, Block, Pending, cell_of}
use Rattle.updates.specs.declared.change.Update.{Update}
use Rattle.updates.specs.Values.{written}

-- the cell is one of the volume's
abbrev pub IsCell : Geometry → Cell → Type 0
IsCell geo (Record n) = IsTrue (is_number geo n)
IsCell geo (NumberBit n) = IsTrue (is_number geo n)
IsCell geo (BlockBit a) = IsTrue (is_data_address geo a)
IsCell geo (Block a) = IsTrue (is_data_address geo a)

-- a record that is written fits the version of the volume's layout
abbrev pub FitsVolume : Geometry → model.Update → Type 0
FitsVolume geo (model.SetInode n inode) = Fits geo.version inode
FitsVolume geo _ = Unit {0}

-- what a pending update writes is a cell of the volume, whose value fits it, and so is each cell that it was issued after
pub record AreCells (geo : Geometry) (p : Pending) : Type 0 where
  pub changed : IsCell geo (cell_of p.change)
  pub fits : FitsVolume geo p.change
  pub after : All (IsCell geo) p.after

abbrev pub IsUpdate : Geometry → Update → Type 0
IsUpdate geo u = AreCells geo (written u).update

-- the records come first, then the bits of numbers, the bits of blocks, and the blocks
abbrev pub place_of : Geometry → Cell → ℕ
place_of geo (Record n) = n
place_of geo (NumberBit n) = inode_count geo + n
place_of geo (BlockBit a) = 2 * inode_count geo + a
place_of geo (Block a) = 2 * inode_count geo + block_count geo + a

abbrev pub place_count : Geometry → ℕ
place_count geo = 2 * inode_count geo + 2 * block_count geo
