-- What a change of one cell leaves of the block in which the cell stands, and that the view then has its new value.
use Rattle.std.specs.Prelude.{◌≡◌, ◌≢◌, ℕ, ◌+◌, ◌%◌, ◌<◌, ◌≤◌, ◌⊎◌, List, [], ◌∷◌, slice_index}
use Rattle.model.specs.Image.{IsGroupBlock}
use Rattle.model.specs.Layout.{Geometry, group_block, inode_byte, data_bit}
use Rattle.model.specs.Cells.{Update, SetInode, SetNumber, SetBlock, SetBytes, put_at, updated}
use Rattle.model.specs.View.{Inode, IsSpare, free_inode, view_of}
use Rattle.ordering.specs.Cuts.{cell_of}
use Rattle.queue_model.specs.Blocks.{home_of}
use Rattle.cgmaps.specs.Maps.{ChangesBit}

-- Of the block no byte changes outside the record that begins at this byte. All 128 bytes of a freed record are zero; of any other one those that stand for nothing in this version of the layout are as they were.
pub record ChangesRecord (version : ℕ) (old new : List ℕ) (byte : ℕ) (inode : Inode) : Type 0 where
  pub outside : (k : ℕ) → (k < byte) ⊎ (byte + 128 ≤ k) → slice_index new k ≡ slice_index old k
  pub freed : inode ≡ free_inode → (k : ℕ) → k < 128 → slice_index new (byte + k) ≡ 0
  pub kept : inode ≢ free_inode → (k : ℕ) → IsSpare version k → slice_index new (byte + k) ≡ slice_index old (byte + k)

-- The new block is the old one but for a record, or for one bit, or it is the bytes that were given.
abbrev pub ChangesAlone : Geometry → Update → List ℕ → List ℕ → Type 0
ChangesAlone geo (SetInode n inode) old new = ChangesRecord geo.version old new (inode_byte n) inode
ChangesAlone geo (SetNumber n marked) old new = ChangesBit old new 32 (n % geo.inodes) marked
ChangesAlone geo (SetBlock a marked) old new = ChangesBit old new 160 (data_bit geo a) marked
ChangesAlone geo (SetBytes a bytes) old new = new ≡ bytes

-- The new block is the old one with the new value of a cell that stands there.
pub record IsPutInto (geo : Geometry) (u : Update) (old new : List ℕ) : Type 0 where
  pub view : (blocks : ℕ → List ℕ) → blocks (home_of geo (cell_of u)) ≡ old → view_of geo (put_at blocks (home_of geo (cell_of u)) new) ≡ updated (view_of geo blocks) u
  pub alone : ChangesAlone geo u old new
  pub group_block : (g : ℕ) → home_of geo (cell_of u) ≡ group_block geo g → IsGroupBlock g old → IsGroupBlock g new

-- The new block is the old one with these changes put into it one after the other, the newest of which stands first here.
abbrev pub IsPutAll : Geometry → List Update → List ℕ → List ℕ → Type 0
IsPutAll geo [] old new = new ≡ old
IsPutAll geo (u ∷ us) old new = (middle : List ℕ) × IsPutAll geo us old middle × IsPutInto geo u middle new
