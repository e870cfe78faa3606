-- What two images have alike of one inode.
use Rattle.std.specs.Prelude.{◌≡◌, ℕ, ◌<◌, IsTrue}
use Rattle.model.specs.Layout.{Geometry}
use Rattle.model.specs.View.{View}
use Rattle.model.specs.Shape.{is_table}
use Rattle.model.specs.Uses.{is_directory_at, IsClaim, blocks_of}

-- the bytes of the block that inode i claims at position k, if it claims one
abbrev pub HasSameClaim : Geometry → View → View → ℕ → ℕ → Type 0
HasSameClaim geo view other i k = (a : ℕ) → IsClaim geo view i k a → view.bytes a ≡ other.bytes a

-- the bytes of the blocks that i claims at the positions below its size, if it is a sound directory
abbrev pub HasSameDirectory : Geometry → View → View → ℕ → Type 0
HasSameDirectory geo view other i = IsTrue (is_directory_at geo view i) → (k : ℕ) → k < blocks_of (view.inode i).size → HasSameClaim geo view other i k

-- the bytes of the tables that i claims
abbrev pub HasSameTables : Geometry → View → View → ℕ → Type 0
HasSameTables geo view other i = (m : ℕ) → IsTrue (is_table geo m) → HasSameClaim geo view other i m

-- the record and the bit of inode i, its tables, and its blocks if it is a sound directory
pub record HasSameInode (geo : Geometry) (view other : View) (i : ℕ) : Type 0 where
  pub inode : view.inode i ≡ other.inode i
  pub marked : view.number_marked i ≡ other.number_marked i
  pub tables : HasSameTables geo view other i
  pub directory_blocks : HasSameDirectory geo view other i
