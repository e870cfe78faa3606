-- What is known of the inode numbers of one group.
use Rattle.std.specs.Prelude.{◌≡◌, ℕ, ◌<◌, ◌+◌, ◌*◌, List, length, Some, slice_get}
use Rattle.model.specs.Layout.{Geometry}
use Rattle.model.specs.View.{View}
use Rattle.frozen.specs.declared.kinds.Kind.{Kind}
use Rattle.frozen.specs.Kept.{Kept, frozen_view}
use Rattle.frozen.specs.Kinds.{IsKind}

-- This is known of the numbers from `first` on, as far as the list goes.
abbrev pub AreKindsFrom : Geometry → View → ℕ → List Kind → Type 0
AreKindsFrom geo view first kinds = (k : ℕ) (kind : Kind) → slice_get kinds k ≡ Some kind → IsKind geo view (first + k) kind

-- This is known of the numbers of a group.
pub record TellsKinds (held : Kept) (group : ℕ) (told : List Kind) : Type 0 where
  pub count : group < held.geometry.groups → length told ≡ held.geometry.inodes
  pub kinds : AreKindsFrom held.geometry (frozen_view held) (group * held.geometry.inodes) told
