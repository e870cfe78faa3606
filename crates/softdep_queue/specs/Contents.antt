-- The bytes that pending updates give a block.
use Rattle.std.specs.Prelude.{ℕ, if◌then◌else◌, List, [], ◌∷◌, Option, Some, None}
use Rattle.model.specs.Cells.{Update, SetInode, SetNumber, SetBlock, SetBytes}
use Rattle.ordering.specs.Cuts.{Block, Pending, same_cell, cell_of}

-- the bytes of a block that an update gives, if it gives some
abbrev pub bytes_of : Update → Option (List ℕ)
bytes_of (SetInode n inode) = None
bytes_of (SetNumber n marked) = None
bytes_of (SetBlock a marked) = None
bytes_of (SetBytes a bytes) = Some bytes

-- the bytes that the last of these updates of a block gives it, the newest update first
abbrev pub last_bytes : List Pending → ℕ → Option (List ℕ)
last_bytes [] a = None
last_bytes (u ∷ q) a = if same_cell (cell_of u.change) (Block a) then bytes_of u.change else last_bytes q a
