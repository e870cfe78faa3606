-- A name of a file is removed, and a link is taken off.
use Rattle.std.specs.Prelude.{ℕ, ◌≤◌, ◌+◌, Bool, List, [], ◌∷◌}
use Rattle.model.specs.Layout.{Geometry}
use Rattle.model.specs.View.{View, Inode}
use Rattle.model.specs.Cells.{SetInode, SetBytes}
use Rattle.ordering.specs.Cuts.{Block, Pending}
use Rattle.ordering.specs.Ghosts.{Ghost}
use Rattle.ordering.specs.Kinds.{SameBody}
use Rattle.ordering.specs.OneSlot.{MayRemove}

-- the updates of the command, newest first
abbrev pub removal : ℕ → Inode → ℕ → List ℕ → List Pending → List Pending
removal i fewer block bytes q =
    record { change = SetInode i fewer; after = Block block ∷ [] }
    ∷ record { change = SetBytes block bytes; after = [] } ∷ q

pub record MayRemoveName (geo : Geometry) (users : View) (ghost : Ghost) (safe : ℕ → Bool) (block : ℕ) (bytes : List ℕ) (d s i : ℕ) (name : List ℕ) (fewer : Inode) : Type 0 where
  pub remove : MayRemove geo users ghost safe [] block bytes d s i name
  pub body : SameBody geo (users.inode i) fewer
  pub links : (users.inode i).links ≤ 1 + fewer.links
