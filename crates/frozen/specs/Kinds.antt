-- What is known of inode numbers beside their records.
use Rattle.std.specs.Prelude.{◌≡◌, ℕ, Bool, ◌&&◌, nat_lt, List, Some, slice_get}
use Rattle.model.specs.Layout.{Geometry}
use Rattle.model.specs.Shape.{direct_positions}
use Rattle.model.specs.View.{View}
use Rattle.model.specs.Uses.{blocks_of, is_sound_at, is_directory_at}
use Rattle.frozen.specs.declared.kinds.Kind.{Kind}

-- whether the number is that of a sound inode with more blocks than its record has pointers of
abbrev pub has_tables_at : Geometry → View → ℕ → Bool
has_tables_at geo view i = is_sound_at geo view i && nat_lt direct_positions (blocks_of (view.inode i).size)

-- The inode of this number is what is known of it.
pub record IsKind (geo : Geometry) (view : View) (i : ℕ) (kind : Kind) : Type 0 where
  pub sound : kind.is_sound ≡ is_sound_at geo view i
  pub tables : kind.has_tables ≡ has_tables_at geo view i
  pub directory : kind.is_directory ≡ is_directory_at geo view i

-- This is known of the numbers from 0 on, as far as the list goes.
abbrev pub AreKinds : Geometry → View → List Kind → Type 0
AreKinds geo view kinds = (i : ℕ) (kind : Kind) → slice_get kinds i ≡ Some kind → IsKind geo view i kind
