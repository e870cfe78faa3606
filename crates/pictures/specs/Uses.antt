-- What each block of a volume is used for.
use Rattle.std.specs.Prelude.{◌≡◌, ℕ, ◌<◌, Bool, not, ◌&&◌, ◌||◌, ◌==◌, nat_lt, if◌then◌else◌, List, length, IsTrue, IsFalse}
use Rattle.std.specs.List.{HoldsAt}
use Rattle.model.specs.Layout.{Geometry, block_count, header_blocks, is_data_address, place_in_group}
use Rattle.model.specs.View.{View}
use Rattle.model.specs.Shape.{is_table}
use Rattle.model.specs.Uses.{Before, IsClaim, is_directory_at}
use Rattle.pictures.specs.Pictured.{Pictured}
use Rattle.pictures.specs.declared.uses.Use.{Use}
use Rattle.pictures.specs.declared.uses.Use.TheVariants.{Maps, Inodes, Directory, Indirect, File, Free, Lost, Duplicate}

-- whether this is the address of the superblock or of a group's block of maps, and whether it is that of a block of records
abbrev pub is_maps : Geometry → ℕ → Bool
is_maps geo a = a == 0 || place_in_group geo a == 0

abbrev pub is_inodes : Geometry → ℕ → Bool
is_inodes geo a = not (is_maps geo a) && nat_lt (place_in_group geo a) (header_blocks geo)

-- what inode i uses the block for that it claims at position k
abbrev pub purpose : Geometry → View → ℕ → ℕ → Use
purpose geo view i k = if is_table geo k then Indirect else (if is_directory_at geo view i then Directory else File)

-- There is one of these claims of a block, of an inode at a position, and no other, and this is its purpose.
pub record IsOneClaim (geo : Geometry) (view : View) (claims : ℕ → ℕ → Type 0) (cell : Use) : Type 0 where
  pub inode : ℕ
  pub position : ℕ
  pub claim : claims inode position
  pub alone : (j l : ℕ) → claims j l → (j ≡ inode) × (l ≡ position)
  pub purpose : purpose geo view inode position ≡ cell

-- There are two of them, one before the other.
abbrev pub AreTwoClaims : (ℕ → ℕ → Type 0) → Type 0
AreTwoClaims claims = (i : ℕ) × (k : ℕ) × (j : ℕ) × (l : ℕ) × claims i k × claims j l × Before i k j l

-- There is none.
abbrev pub AreNoClaims : (ℕ → ℕ → Type 0) → Type 0
AreNoClaims claims = (i k : ℕ) → claims i k → ⊥

-- What block a is used for, told by these claims of it.
abbrev pub IsUsedBy : Geometry → View → (ℕ → ℕ → Type 0) → ℕ → Use → Type 0
IsUsedBy geo view claims a Maps = IsTrue (is_maps geo a)
IsUsedBy geo view claims a Inodes = IsTrue (is_inodes geo a)
IsUsedBy geo view claims a Directory = IsTrue (is_data_address geo a) × IsOneClaim geo view claims Directory
IsUsedBy geo view claims a Indirect = IsTrue (is_data_address geo a) × IsOneClaim geo view claims Indirect
IsUsedBy geo view claims a File = IsTrue (is_data_address geo a) × IsOneClaim geo view claims File
IsUsedBy geo view claims a Free = IsTrue (is_data_address geo a) × AreNoClaims claims × IsFalse (view.block_marked a)
IsUsedBy geo view claims a Lost = IsTrue (is_data_address geo a) × AreNoClaims claims × IsTrue (view.block_marked a)
IsUsedBy geo view claims a Duplicate = IsTrue (is_data_address geo a) × AreTwoClaims claims

-- inode i claims block a at position k
abbrev pub claims_of : Geometry → View → ℕ → ℕ → ℕ → Type 0
claims_of geo view a i k = IsClaim geo view i k a

-- What block a is used for: all claims of it tell.
abbrev pub IsUsedAs : Geometry → View → ℕ → Use → Type 0
IsUsedAs geo view a = IsUsedBy geo view (claims_of geo view a) a

-- Each block of the volume has a cell, of which Is tells what it shows.
pub record ShowEach (geo : Geometry) (Is : ℕ → Use → Type 0) (cells : List Use) : Type 0 where
  pub count : length cells ≡ block_count geo
  pub each : (a : ℕ) → a < block_count geo → HoldsAt (Is a) cells a

-- The picture shows what each block of the volume is used for.
pub record IsPicture (geo : Geometry) (view : View) (picture : Pictured) : Type 0 where
  pub geometry : picture.geometry ≡ geo
  pub cells : ShowEach geo (IsUsedAs geo view) picture.cells
