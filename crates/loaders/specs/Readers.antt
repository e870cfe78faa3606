-- What workers that read the blocks of groups give, and in which order refusals are told.
use Rattle.std.specs.Prelude.{◌≡◌, ℕ, ◌<◌, List, length, Option, Some, Ok, Err, slice_get, All, IsTrue}
use Rattle.std.specs.declared.result.Result.{Result}
use Rattle.std.specs.Arc.{arc_value}
use Rattle.std.specs.declared.sync.Arc.{Arc}
use Rattle.std.specs.Global.{Vec}
use Rattle.std.specs.declared.alloc.Global.{Global}
use Rattle.layout.specs.declared.refusal.Refusal.{Refusal}
use Rattle.model.specs.Layout.{Geometry, block_count, is_data_address}
use Rattle.model.specs.Image.{IsBlock, block_at}
use Rattle.device.specs.Media.{Held}
use Rattle.device.specs.Reading.{ReadsOnly}
use Rattle.frozen.specs.Shared.{shared_blocks}
use Rattle.frozen.specs.Loading.{HeaderRefuses, IsHeader, IsHeaderOf}
use Rattle.frozen.specs.declared.frozen.Placed.{Placed}
use Rattle.loaders.specs.declared.reader.Reader.{Reader}

-- the blocks of a group that come before its data blocks, or a refusal
abbrev pub Header : Type 0
Header = Result (Vec (Option (Arc (List ℕ) Global))) Refusal

-- What was read of group g: its blocks, each as it has to be and of the image, or why they are refused.
abbrev pub IsRead : Type 0 → Geometry → List (List ℕ) → ℕ → Header → Type 0
IsRead honest geo image g (Ok blocks) = IsHeader geo g (shared_blocks blocks.items) × (honest → IsHeaderOf geo image g (shared_blocks blocks.items))
IsRead honest geo image g (Err refusal) = HeaderRefuses honest geo image g refusal

-- A call that only reads, of a group of a volume as long as the device, gives this.
pub record GivesHeader {D : Type 0} (honest_of : D → Type 0) (image_of : D → List (List ℕ)) (held_of : D → Held) (geo : Geometry) (g : ℕ) (part : Header) (old new : D) : Type 0 where
  pub reads : ReadsOnly honest_of image_of held_of old new
  pub read : g < geo.groups → length (image_of old) ≡ block_count geo → IsRead (honest_of new) geo (image_of old) g part

-- A block that stands at the address of a data block, and one that stands there on the image.
abbrev pub IsOfData : Geometry → Placed → Type 0
IsOfData geo placed = IsTrue (is_data_address geo placed.address) × IsBlock (arc_value placed.block)

abbrev pub IsPlacedOf : List (List ℕ) → Placed → Type 0
IsPlacedOf image placed = arc_value placed.block ≡ block_at image placed.address

-- Each is a data block, and where reads were honest that of the image.
abbrev pub AreAhead : Type 0 → Geometry → List (List ℕ) → List Placed → Type 0
AreAhead honest geo image ahead = All (λ placed. IsOfData geo placed × (honest → IsPlacedOf image placed)) ahead

-- What was read ahead, and what is read more, is of the image that the device shows.
abbrev pub StaysAhead : {D : Type 0} → (D → Type 0) → (D → List (List ℕ)) → Geometry → D → List Placed → D → List Placed → Type 0
StaysAhead honest_of image_of geo old before new after = AreAhead (honest_of old) geo (image_of old) before → AreAhead (honest_of new) geo (image_of old) after

-- A worker that only read blocks ahead.
pub record ReadsAhead {D : Type 0} (honest_of : D → Type 0) (image_of : D → List (List ℕ)) (held_of : D → Held) (old new : Reader D) : Type 0 where
  pub geometry : new.geometry ≡ old.geometry
  pub reads : ReadsOnly honest_of image_of held_of old.device new.device
  pub ahead : StaysAhead honest_of image_of old.geometry old.device old.ahead.items new.device new.ahead.items

-- all of these devices show this image
abbrev pub Show : {D : Type 0} → (D → List (List ℕ)) → List (List ℕ) → List D → Type 0
Show image_of image devices = All (λ device. image_of device ≡ image) devices

-- Each of these devices has only been read.
pub record AreRead {D : Type 0} (honest_of : D → Type 0) (image_of : D → List (List ℕ)) (held_of : D → Held) (olds news : List D) : Type 0 where
  pub count : length news ≡ length olds
  pub each : (i : ℕ) (old new : D) → slice_get olds i ≡ Some old → slice_get news i ≡ Some new → ReadsOnly honest_of image_of held_of old new

-- The refusal is that of the first group that is refused.
pub record IsFirstRefusal (parts : List Header) (refusal : Refusal) : Type 0 where
  pub group : ℕ
  pub refused : slice_get parts group ≡ Some (Err refusal)
  pub before : (g : ℕ) → g < group → (blocks : Vec (Option (Arc (List ℕ) Global))) × (slice_get parts g ≡ Some (Ok blocks))
