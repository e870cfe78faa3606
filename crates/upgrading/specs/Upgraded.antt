-- What an upgrade to version 2 of the layout makes of an image.
use Rattle.std.specs.Prelude.{◌≡◌, ◌≢◌, ℕ, ◌+◌, ◌%◌, ◌<◌, ◌≤◌, Bool, ◌&&◌, nat_lt, nat_le, List, [], ◌∷◌, ◌++◌, length, slice_index, All, ◌⊎◌, IsTrue}
use Rattle.model.specs.Layout.{Geometry, inode_block, inode_byte, inode_count}
use Rattle.model.specs.Image.{IsImage, block_at, image_view}
use Rattle.model.specs.Rules.{ObeysRules}
use Rattle.device.specs.Media.{Held, MayBeLeft, Medium, images_held}
use Rattle.versions.specs.Shown.{ShowsTheSame, of_version}

-- ---- one image

-- byte b of block a
abbrev pub byte_at : List (List ℕ) → ℕ → ℕ → ℕ
byte_at image a b = slice_index (block_at image a) b

-- in each record bytes 60 to 63 are 0, where the double indirect pointer stands in version 2
abbrev pub HasClearBytes : Geometry → List (List ℕ) → Type 0
HasClearBytes geo image = (n b : ℕ) → n < inode_count geo → 60 ≤ b → b < 64 → byte_at image (inode_block geo n) (inode_byte n + b) ≡ 0

-- whether byte b of a block of records is one of these bytes of some record
abbrev pub is_double_byte : ℕ → Bool
is_double_byte b = nat_le 60 (b % 128) && nat_lt (b % 128) 64

-- what an upgrade may change: these bytes of records, and the version in the superblock
pub data MayChange (geo : Geometry) (a b : ℕ) : Type 0 where
  OfRecord : (n : ℕ) → n < inode_count geo → a ≡ inode_block geo n → IsTrue (is_double_byte b) → MayChange geo a b
  OfVersion : a ≡ 0 → 4 ≤ b → b < 8 → MayChange geo a b

-- It is an image of the same volume, in the version that its own superblock tells: it holds the same, obeys the rules and shows the same, and no byte is
-- another one but where an upgrade may change it. In version 2 no record has a double indirect pointer.
pub record IsSameVolume (geo : Geometry) (start image : List (List ℕ)) : Type 0 where
  pub version : ℕ
  pub is_image : IsImage (of_version version geo) image
  pub holds : image_view (of_version version geo) image ≡ image_view geo start
  pub shows : ShowsTheSame geo (image_view geo start) (of_version version geo) (image_view (of_version version geo) image)
  pub others : (a b : ℕ) → (MayChange geo a b → ⊥) → byte_at image a b ≡ byte_at start a b
  pub clear : version ≡ 2 → HasClearBytes geo image

-- ---- the images that are held, one after each write

-- one block is another one than before, and before it was that of the first image, which it is no more
pub record ChangesABlock (start before after : List (List ℕ)) : Type 0 where
  pub address : ℕ
  pub on_volume : address < length start
  pub was : block_at before address ≡ block_at start address
  pub differs : block_at after address ≢ block_at start address
  pub others : (a : ℕ) → (a ≡ address → ⊥) → block_at after a ≡ block_at before a

-- Each of these images changes a block that stood as it was at first: so no block is written twice, and none that stays as it was.
abbrev pub EachChangesABlock : List (List ℕ) → List (List ℕ) → List (List (List ℕ)) → Type 0
EachChangesABlock start now [] = Unit {0}
EachChangesABlock start now (next ∷ more) = ChangesABlock start now next × EachChangesABlock start next more

-- the last of these images, or the one before them all
abbrev pub last_held : List (List ℕ) → List (List (List ℕ)) → List (List ℕ)
last_held now [] = now
last_held now (next ∷ more) = last_held next more

-- the first image is one of version 1 that obeys the rules, and each of the others is one of the same volume, with one more block changed
pub record AreOfVolume (geo : Geometry) (start : List (List ℕ)) (more : List (List (List ℕ))) : Type 0 where
  pub is_image : IsImage geo start
  pub single : geo.version ≡ 1
  pub obeys : ObeysRules geo (image_view geo start)
  pub same : All (IsSameVolume geo start) more
  pub changes : EachChangesABlock start start more

-- Whatever comes of an upgrade of this image, which was read honestly: the device holds the last image that it held, and unless it held no other one, they are of the same volume.
pub record Upgrades (honest : Type 0) (start : List (List ℕ)) (before : Held) (image : List (List ℕ)) (held : Held) : Type 0 where
  pub more : List (List (List ℕ))
  pub held_now : images_held held ≡ images_held before ++ more
  pub image_now : image ≡ last_held start more
  pub of_volume : honest → (more ≡ []) ⊎ ((geo : Geometry) × AreOfVolume geo start more)

-- An upgrade that made so many writes is done: the image is one of version 2, and if it was so before nothing was written.
pub record IsUpgraded (start : List (List ℕ)) (before : Held) (image : List (List ℕ)) (held : Held) (writes : ℕ) : Type 0 where
  pub more : List (List (List ℕ))
  pub held_now : images_held held ≡ images_held before ++ more
  pub counted : writes ≡ length more
  pub geometry : Geometry
  pub was_image : IsImage geometry start
  pub obeyed : ObeysRules geometry (image_view geometry start)
  pub is_image : IsImage (of_version 2 geometry) image
  pub again : geometry.version ≡ 2 → more ≡ []

-- ---- what a loss of power leaves

-- An image is one of the same volume as an image that a loss of power might have left of this medium, if that was one that obeys the rules.
pub record IsOfOneLeft (geo : Geometry) (m : Medium) (image : List (List ℕ)) : Type 0 where
  pub was : List (List ℕ)
  pub might : MayBeLeft m was
  pub same : IsImage geo was → ObeysRules geo (image_view geo was) → IsSameVolume geo was image

-- Whatever a loss of power leaves of the medium (m) is one of the same volume as an image that it might have left of the medium before.
abbrev pub LeavesVolume : Geometry → Medium → Medium → Type 0
LeavesVolume geo before m = (image : List (List ℕ)) → MayBeLeft m image → IsOfOneLeft geo before image

-- whatever a loss of power leaves of the medium (m), it might have left of the medium before
abbrev pub LeavesNoMore : Medium → Medium → Type 0
LeavesNoMore before m = (image : List (List ℕ)) → MayBeLeft m image → MayBeLeft before image

-- The first image is one of version 1 that obeys the rules. Each of these media, and the one that there is now, leaves images of that volume: where nothing was
-- loose at first these are images of the same volume as the first one, which alone was left then.
pub record LeaveVolume (geo : Geometry) (start : List (List ℕ)) (before : Medium) (more : List Medium) (now : Medium) : Type 0 where
  pub is_image : IsImage geo start
  pub single : geo.version ≡ 1
  pub obeys : ObeysRules geo (image_view geo start)
  pub each : All (LeavesVolume geo before) more
  pub last : LeavesVolume geo before now

-- Whatever comes of an upgrade of this image, which was read honestly, and at whatever moment the power is lost: unless the device had no other medium, what is left is of the same volume.
pub record KeepsVolume (honest : Type 0) (start : List (List ℕ)) (before held : Held) : Type 0 where
  pub more : List Medium
  pub media : held.media ≡ before.media ++ more
  pub of_volume : honest → ((more ≡ []) × LeavesNoMore before.now held.now) ⊎ ((geo : Geometry) × LeaveVolume geo start before.now more held.now)
