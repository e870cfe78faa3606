-- The update by which an inode gets other attributes.
use Rattle.std.specs.Prelude.{ℕ, List, []}
use Rattle.model.specs.View.{Inode, with_attributes}
use Rattle.model.specs.Cells.{SetInode}
use Rattle.ordering.specs.Cuts.{Pending}

-- of an inode with this record; it comes after no other cell
abbrev pub setting : ℕ → Inode → List ℕ → Pending
setting n inode words = record { change = SetInode n (with_attributes inode words); after = [] }
