-- Which records are sound, and which blocks an inode uses.
use Rattle.std.specs.Prelude.{◌≡◌, ℕ, zero, suc, ◌+◌, ◌/◌, ◌%◌, ◌<◌, Bool, ◌&&◌, ◌||◌, nat_lt, nat_le, ◌==◌, if◌then◌else◌, Some, None, Option, ◌⊎◌, IsTrue}
use Rattle.std.specs.Bool.{then_some}
use Rattle.std.specs.Option.{option_and_then, option_map_or}
use Rattle.model.specs.Layout.{Geometry, is_data_address, is_number}
use Rattle.model.specs.View.{View, Inode}
pub use Rattle.model.specs.Shape.{direct_positions}
use Rattle.model.specs.Shape.{most_blocks, table_of, place_in_table, reaches, field_at, pointer_in}

-- how many blocks a size takes
abbrev pub blocks_of : ℕ → ℕ
blocks_of size = (size + 1023) / 1024

abbrev pub is_directory : Inode → Bool
is_directory inode = inode.mode == 2

-- A record is sound if it is a file's, or a directory's with a size of one or more whole blocks, and the blocks are few enough.
abbrev pub is_sound : Geometry → Inode → Bool
is_sound geo inode =
    (inode.mode == 1 || is_directory inode && nat_lt 0 inode.size && inode.size % 1024 == 0)
    && nat_le (blocks_of inode.size) (most_blocks geo)

-- whether the number is a sound inode's, and whether it is a sound directory's
abbrev pub is_sound_at : Geometry → View → ℕ → Bool
is_sound_at geo view i = is_number geo i && is_sound geo (view.inode i)

abbrev pub is_directory_at : Geometry → View → ℕ → Bool
is_directory_at geo view d = is_sound_at geo view d && is_directory (view.inode d)

-- whether a record has a position by its size alone
abbrev pub has_position : Geometry → Inode → ℕ → Bool
has_position geo inode k = reaches geo (blocks_of inode.size) k

-- the value at position k, where at most so many tables stand on its way: a pointer in the record, or one in the table that is claimed there
abbrev pub use_within : ℕ → Geometry → View → Inode → ℕ → Option ℕ
use_within zero geo view inode k = then_some (has_position geo inode k) (field_at geo inode k)
use_within (suc n) geo view inode k =
    option_map_or
    (λ m. option_and_then (λ t. then_some (has_position geo inode k && is_data_address geo t) (pointer_in (view.bytes t) (place_in_table geo k))) (use_within n geo view inode m))
    (table_of geo k)
    (then_some (has_position geo inode k) (field_at geo inode k))

-- the value that a record uses at position k, if it is sound and uses that position
unfoldable pub record_use : Geometry → View → Inode → ℕ → Option ℕ
record_use geo view inode k = if is_sound geo inode then use_within 2 geo view inode k else None

-- the value that inode i uses at position k, if it uses that position
unfoldable pub use_at : Geometry → View → ℕ → ℕ → Option ℕ
use_at geo view i k = if is_number geo i then record_use geo view (view.inode i) k else None

-- inode i uses value v at position k
abbrev pub IsUse : Geometry → View → ℕ → ℕ → ℕ → Type 0
IsUse geo view i k v = use_at geo view i k ≡ Some v

-- A claim is a use whose value is a data address.
abbrev pub IsClaim : Geometry → View → ℕ → ℕ → ℕ → Type 0
IsClaim geo view i k a = IsUse geo view i k a × IsTrue (is_data_address geo a)

-- some inode claims block a
abbrev pub IsClaimed : Geometry → View → ℕ → Type 0
IsClaimed geo view a = (i : ℕ) × (k : ℕ) × IsClaim geo view i k a

-- (i, j) comes before (k, l): by the first numbers, and where they are equal by the second
abbrev pub Before : ℕ → ℕ → ℕ → ℕ → Type 0
Before i j k l = (i < k) ⊎ ((i ≡ k) × (j < l))

-- The owner of a block is its claim with the least inode and position.
pub record IsOwner (geo : Geometry) (view : View) (a i k : ℕ) : Type 0 where
  pub claims : IsClaim geo view i k a
  pub least : (j l : ℕ) → IsClaim geo view j l a → Before j l i k → ⊥

-- the block that inode i claims at position k, if it claims one
unfoldable pub claim_at : Geometry → View → ℕ → ℕ → Option ℕ
claim_at geo view i k = option_and_then (λ a. then_some (is_data_address geo a) a) (use_at geo view i k)
