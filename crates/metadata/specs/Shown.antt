-- The metadata of a mounted volume in memory, and the view that its users have.
use Rattle.std.specs.Prelude.{◌≡◌, ℕ, List, Some, IsTrue}
use Rattle.model.specs.Layout.{is_data_address}
use Rattle.model.specs.View.{View}
use Rattle.frozen.specs.Kept.{Kept, KeepsMetadata, frozen_view, kept_at}
use Rattle.metadata.specs.Free.{Free, IsFreeOf}

-- The records and bits are those that users see, and so are the bytes of each data block that is kept.
pub record Shows (kept : Kept) (users : View) : Type 0 where
  pub inode : (i : ℕ) → (frozen_view kept).inode i ≡ users.inode i
  pub number_marked : (i : ℕ) → (frozen_view kept).number_marked i ≡ users.number_marked i
  pub block_marked : (a : ℕ) → (frozen_view kept).block_marked a ≡ users.block_marked a
  pub bytes : (a : ℕ) (b : List ℕ) → IsTrue (is_data_address kept.geometry a) → kept_at kept.blocks a ≡ Some b → users.bytes a ≡ b

-- What is kept is all metadata, and this is what may be given out.
pub record IsMetadata (kept : Kept) (space : Free) : Type 0 where
  pub metadata : KeepsMetadata kept
  pub free : IsFreeOf kept.geometry (frozen_view kept) space
