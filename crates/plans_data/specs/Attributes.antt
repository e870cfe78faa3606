-- An inode gets other attributes.
use Rattle.std.specs.Prelude.{ℕ, List, [], ◌∷◌}
use Rattle.model.specs.View.{Inode, with_attributes}
use Rattle.model.specs.Cells.{SetInode}
use Rattle.ordering.specs.Cuts.{Pending}

-- the record, which comes after no other cell
abbrev pub attributing : ℕ → Inode → List ℕ → List Pending → List Pending
attributing n inode words q = record { change = SetInode n (with_attributes inode words); after = [] } ∷ q
