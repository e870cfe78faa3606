-- The steps of an upgrade: how a block of records is cleared, and an image whose blocks of records are cleared up to one.
use Rattle.std.specs.Prelude.{◌≡◌, ◌≢◌, ℕ, zero, suc, ◌+◌, ◌*◌, ◌<◌, ◌≤◌, Bool, List, [], ◌∷◌, ◌++◌, length, slice_set, All, ◌⊎◌}
use Rattle.model.specs.Layout.{Geometry, inode_block, inode_count}
use Rattle.model.specs.Image.{block_at, image_view}
use Rattle.model.specs.Rules.{ObeysRules}
use Rattle.layout.specs.Fresh.{put_u32}
use Rattle.device.specs.Media.{Held, MayBeLeft, Medium, images_held, synced, wrote}
use Rattle.frozen.specs.Kept.{IsKeptOf, KeepsFrame, Kept}
use Rattle.upgrading.specs.Upgraded.{AreOfVolume, last_held}

-- a block whose first k records have no double indirect pointer
unfoldable pub cleared_below : ℕ → List ℕ → List ℕ
cleared_below zero block = block
cleared_below (suc k) block = put_u32 (128 * k + 60) 0 (cleared_below k block)

-- and of all eight of its records none has one
abbrev pub cleared : List ℕ → List ℕ
cleared block = cleared_below 8 block

-- a superblock that tells version 2
abbrev pub doubled : List ℕ → List ℕ
doubled block = put_u32 4 2 block

-- A block is written with its records cleared, or left where they are clear; so many writes were made. The device keeps order (true) or does not.
pub data Clears (keeps_order : Bool) (a : ℕ) (block : List ℕ) (image : List (List ℕ)) (held : Held) (image' : List (List ℕ)) (held' : Held) : ℕ → Type 0 where
  Writes : cleared block ≢ block → image' ≡ slice_set image a (cleared block) → images_held held' ≡ images_held held ++ image' ∷ [] → held' ≡ wrote keeps_order held a (cleared block)
      → Clears keeps_order a block image held image' held' 1
  Leaves : cleared block ≡ block → image' ≡ image → held' ≡ held → Clears keeps_order a block image held image' held' 0

-- The superblock is written with version 2.
pub record TellsVersion (block : List ℕ) (image : List (List ℕ)) (held : Held) (image' : List (List ℕ)) (held' : Held) : Type 0 where
  pub image_is : image' ≡ slice_set image 0 (doubled block)
  pub held_is : images_held held' ≡ images_held held ++ image' ∷ []

-- How far the device went that is to get this superblock with version 2: it did nothing, waited for what was written before, has it written, or waited for that too.
pub data GoesToVersion (keeps_order : Bool) (block : List ℕ) (held held' : Held) : Type 0 where
  Stays : held' ≡ held → GoesToVersion keeps_order block held held'
  Waited : held' ≡ synced held → GoesToVersion keeps_order block held held'
  Told : held' ≡ wrote keeps_order (synced held) 0 (doubled block) → GoesToVersion keeps_order block held held'
  WaitedAgain : held' ≡ synced (wrote keeps_order (synced held) 0 (doubled block)) → GoesToVersion keeps_order block held held'

-- a block of records is one of the first image with its records cleared
abbrev pub IsClearedAt : Geometry → List (List ℕ) → List (List ℕ) → ℕ → Type 0
IsClearedAt geo start image a = (m : ℕ) × (m < inode_count geo) × (a ≡ inode_block geo m) × (block_at image a ≡ cleared (block_at start a))

-- each block is one of the first image, or is cleared, whichever of them are
pub record IsPartlyCleared (geo : Geometry) (start image : List (List ℕ)) : Type 0 where
  pub count : length image ≡ length start
  pub each : (a : ℕ) → IsClearedAt geo start image a ⊎ (block_at image a ≡ block_at start a)

-- whatever a loss of power leaves of the medium (m) is an image that it might have left of the medium before, with some blocks cleared
abbrev pub LeavesPartlyCleared : Geometry → Medium → Medium → Type 0
LeavesPartlyCleared geo before m = (image : List (List ℕ)) → MayBeLeft m image → (was : List (List ℕ)) × MayBeLeft before was × IsPartlyCleared geo was image

-- the records of the numbers below 8 n are cleared, and all other blocks are those of the first image
pub record IsStage (geo : Geometry) (start : List (List ℕ)) (n : ℕ) (image : List (List ℕ)) : Type 0 where
  pub count : length image ≡ length start
  pub few : 8 * n ≤ inode_count geo
  pub done : (m : ℕ) → m < 8 * n → block_at image (inode_block geo m) ≡ cleared (block_at start (inode_block geo m))
  pub others : (a : ℕ) → ((m : ℕ) → m < 8 * n → a ≡ inode_block geo m → ⊥) → block_at image a ≡ block_at start a

-- what is kept is of this image, which is one of version 1 that obeys the rules
pub record IsUpgradable (kept : Kept) (start : List (List ℕ)) : Type 0 where
  pub frame : KeepsFrame kept
  pub of_image : IsKeptOf kept start
  pub single : kept.geometry.version ≡ 1
  pub obeys : ObeysRules kept.geometry (image_view kept.geometry start)

-- since the device held the first image, so many writes were made, and the records of the numbers below 8 n are cleared
pub record HasCleared (kept : Kept) (start : List (List ℕ)) (before : Held) (n : ℕ) (image : List (List ℕ)) (held : Held) (writes : ℕ) : Type 0 where
  pub more : List (List (List ℕ))
  pub held_now : images_held held ≡ images_held before ++ more
  pub image_now : image ≡ last_held start more
  pub counted : writes ≡ length more
  pub stage : IsUpgradable kept start → IsStage kept.geometry start n image
  pub of_volume : IsUpgradable kept start → AreOfVolume kept.geometry start more

-- since the device held the first image, each medium that it had leaves that image with some blocks cleared
pub record HasLeft (kept : Kept) (start : List (List ℕ)) (before held : Held) : Type 0 where
  pub more : List Medium
  pub media : held.media ≡ before.media ++ more
  pub each : IsUpgradable kept start → All (LeavesPartlyCleared kept.geometry before.now) more
  pub now : IsUpgradable kept start → LeavesPartlyCleared kept.geometry before.now held.now
