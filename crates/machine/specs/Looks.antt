-- What users see of an inode but for its links and its blocks.
use Rattle.std.specs.Prelude.{ℕ, List}
use Rattle.model.specs.View.{Inode}

pub record Looks : Type 0 where
  pub mode : ℕ
  pub size : ℕ
  pub attributes : List ℕ

abbrev pub looks : Inode → Looks
looks inode = record { mode = inode.mode; size = inode.size; attributes = inode.attributes }
