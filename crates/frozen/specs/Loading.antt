-- Which refusal an image gets that cannot be loaded, and the steps of loading one.
use Rattle.std.specs.Prelude.{◌≡◌, ◌≢◌, ℕ, ◌+◌, ◌<◌, List, length, ◌⊎◌, Option, Some, None, IsTrue, IsFalse}
use Rattle.layout.specs.declared.refusal.Refusal.{Refusal}
use Rattle.layout.specs.declared.refusal.Refusal.TheVariants.{NoMemory, Device, BadLength, BadSuper, BadGroup}
use Rattle.model.specs.Layout.{Geometry, IsGeometry, block_count, group_block, header_blocks, is_data_address}
use Rattle.model.specs.Image.{IsBlock, IsSuper, IsGroupBlock, block_at}
use Rattle.frozen.specs.Kept.{kept_at}

-- the superblock is that of this geometry
pub record TellsGeometry (image : List (List ℕ)) (geo : Geometry) : Type 0 where
  pub some : 0 < length image
  pub geometry : IsGeometry geo
  pub first : IsSuper geo (block_at image 0)

-- The image has no block, or not as many as its superblock tells.
abbrev pub HasBadLength : List (List ℕ) → Type 0
HasBadLength image = (length image ≡ 0) ⊎ ((geo : Geometry) × TellsGeometry image geo × (length image ≢ block_count geo))

-- It has a first block, which is no superblock.
abbrev pub HasBadSuper : List (List ℕ) → Type 0
HasBadSuper image = (0 < length image) × ((geo : Geometry) → TellsGeometry image geo → ⊥)

-- group g is the least whose block of maps is wrong
pub record IsLeastBad (geo : Geometry) (image : List (List ℕ)) (g : ℕ) : Type 0 where
  pub wrong : IsGroupBlock g (block_at image (group_block geo g)) → ⊥
  pub before : (h : ℕ) → h < g → IsGroupBlock h (block_at image (group_block geo h))

-- It has the superblock and the length of a volume, and g is the least group whose block of maps is wrong.
pub record HasBadGroup (image : List (List ℕ)) (g : ℕ) : Type 0 where
  pub geometry : Geometry
  pub told : TellsGeometry image geometry
  pub count : length image ≡ block_count geometry
  pub in_volume : g < geometry.groups
  pub least : IsLeastBad geometry image g

-- Loading answers no other refusal, and of an image that is read honestly each one but want of memory and a fault says this.
abbrev pub LoadRefuses : Type 0 → List (List ℕ) → Refusal → Type 0
LoadRefuses honest image NoMemory = Unit {0}
LoadRefuses honest image Device = Unit {0}
LoadRefuses honest image BadLength = honest → HasBadLength image
LoadRefuses honest image BadSuper = honest → HasBadSuper image
LoadRefuses honest image (BadGroup g) = honest → HasBadGroup image g
LoadRefuses honest image _ = ⊥

-- ---- the steps of loading

-- what is refused once the superblock was read
abbrev pub FirstRefuses : Type 0 → List (List ℕ) → Refusal → Type 0
FirstRefuses honest image Device = Unit {0}
FirstRefuses honest image BadLength = honest → HasBadLength image
FirstRefuses honest image BadSuper = honest → HasBadSuper image
FirstRefuses honest image _ = ⊥

-- the machine gave out: there was no memory, or the device failed
abbrev pub GivesOut : Refusal → Type 0
GivesOut refusal = (refusal ≡ NoMemory) ⊎ (refusal ≡ Device)

-- A block behind the superblock is kept unless it is a data block; a group's block of maps has its magic and number.
abbrev pub IsKeptBlock : Geometry → ℕ → Option (List ℕ) → Type 0
IsKeptBlock geo a None = IsTrue (is_data_address geo a)
IsKeptBlock geo a (Some b) = IsFalse (is_data_address geo a) × IsBlock b × ((g : ℕ) → group_block geo g ≡ a → IsGroupBlock g b)

-- the kept blocks are those of the image
abbrev pub AreBlocksOf : List (Option (List ℕ)) → List (List ℕ) → Type 0
AreBlocksOf blocks image = (a : ℕ) (b : List ℕ) → kept_at blocks a ≡ Some b → b ≡ block_at image a

-- The blocks below address n: the superblock, and behind it those that are kept.
pub record KeptBelow (geo : Geometry) (first : List ℕ) (blocks : List (Option (List ℕ))) (n : ℕ) : Type 0 where
  pub count : length blocks ≡ n
  pub start : kept_at blocks 0 ≡ Some first
  pub each : (a : ℕ) → 0 < a → a < n → IsKeptBlock geo a (kept_at blocks a)

-- Where the first list has the blocks below n, the other one has those below m.
abbrev pub KeepsOn : Geometry → List (Option (List ℕ)) → ℕ → List (Option (List ℕ)) → ℕ → Type 0
KeepsOn geo old n new m = (first : List ℕ) → KeptBelow geo first old n → KeptBelow geo first new m

-- those behind the superblock are those of the image
abbrev pub AreReadFrom : List (Option (List ℕ)) → List (List ℕ) → Type 0
AreReadFrom blocks image = (a : ℕ) (b : List ℕ) → 0 < a → kept_at blocks a ≡ Some b → b ≡ block_at image a

-- The block of maps that stands here is refused with its group's number, and nothing else is refused.
abbrev pub MapsRefuse : Geometry → ℕ → List ℕ → Refusal → Type 0
MapsRefuse geo a block (BadGroup g) = (g < geo.groups) × (group_block geo g ≡ a) × (IsGroupBlock g block → ⊥)
MapsRefuse geo a block _ = ⊥

-- the same of the block of a device
abbrev pub BlockRefuses : Type 0 → Geometry → List (List ℕ) → ℕ → Refusal → Type 0
BlockRefuses honest geo image a NoMemory = Unit {0}
BlockRefuses honest geo image a Device = Unit {0}
BlockRefuses honest geo image a (BadGroup g) = (g < geo.groups) × (group_block geo g ≡ a) × (honest → IsGroupBlock g (block_at image a) → ⊥)
BlockRefuses honest geo image a _ = ⊥

-- The blocks of group g that come before its data blocks, each as it has to be.
pub record IsHeader (geo : Geometry) (g : ℕ) (blocks : List (Option (List ℕ))) : Type 0 where
  pub count : length blocks ≡ header_blocks geo
  pub each : (k : ℕ) → k < header_blocks geo → IsKeptBlock geo (group_block geo g + k) (kept_at blocks k)

-- and each is the one of the image
abbrev pub IsHeaderOf : Geometry → List (List ℕ) → ℕ → List (Option (List ℕ)) → Type 0
IsHeaderOf geo image g blocks = (k : ℕ) (b : List ℕ) → kept_at blocks k ≡ Some b → b ≡ block_at image (group_block geo g + k)

-- The blocks of group g are refused with its number where its block of maps is wrong, and with no other that tells of the image.
abbrev pub HeaderRefuses : Type 0 → Geometry → List (List ℕ) → ℕ → Refusal → Type 0
HeaderRefuses honest geo image g NoMemory = Unit {0}
HeaderRefuses honest geo image g Device = Unit {0}
HeaderRefuses honest geo image g (BadGroup j) = (j ≡ g) × (honest → IsGroupBlock g (block_at image (group_block geo g)) → ⊥)
HeaderRefuses honest geo image g _ = ⊥

-- and of all blocks that each volume has
abbrev pub FrameRefuses : Type 0 → Geometry → List (List ℕ) → Refusal → Type 0
FrameRefuses honest geo image NoMemory = Unit {0}
FrameRefuses honest geo image Device = Unit {0}
FrameRefuses honest geo image (BadGroup g) = (g < geo.groups) × (honest → IsLeastBad geo image g)
FrameRefuses honest geo image _ = ⊥
