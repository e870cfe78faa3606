-- What a device has on its medium for good, what may be lost with the power, and what a power cut leaves.
use Rattle.std.specs.Prelude.{◌≡◌, ℕ, Bool, true, false, List, [], ◌∷◌, ◌++◌, All, length, map}
use Rattle.model.specs.Image.{IsBlock}
use Rattle.device.specs.declared.cache.Step.{Step}
use Rattle.device.specs.declared.cache.Step.TheVariants.{Wrote, Synced}
use Rattle.device.specs.Memory.{IsWriteTo}
use Rattle.device.specs.Writes.{Write, image_after}

-- those of a list that are chosen, in their order: the others are lost
abbrev pub chosen : {A : Type 0} → List A → List Bool → List A
chosen [] picks = []
chosen (x ∷ xs) [] = []
chosen (x ∷ xs) (true ∷ picks) = x ∷ chosen xs picks
chosen (x ∷ xs) (false ∷ picks) = chosen xs picks

-- the blocks that are on the medium for good, and the writes since, the first first, of which any may be there
pub record Medium : Type 0 where
  pub durable : List (List ℕ)
  pub loose : List Write

-- what the device answers
abbrev pub image_of : Medium → List (List ℕ)
image_of m = image_after m.durable m.loose

-- what a power cut may leave: any of the loose writes, whole and in their order, over what is durable
abbrev pub MayBeLeft : Medium → List (List ℕ) → Type 0
MayBeLeft m image = (picks : List Bool) × (image ≡ image_after m.durable (chosen m.loose picks))

-- all of an image is there for good
abbrev pub settled_on : List (List ℕ) → Medium
settled_on image = record { durable = image; loose = [] }

-- all that was written is there for good
abbrev pub settled : Medium → Medium
settled m = settled_on (image_of m)

-- a write waits in the cache
abbrev pub cached : Medium → ℕ → List ℕ → Medium
cached m address block = record m { loose = m.loose ++ (address, block) ∷ [] }

-- a device that keeps order (true) has each write on its medium before it answers
abbrev pub written : Bool → Medium → ℕ → List ℕ → Medium
written true m address block = settled (cached m address block)
written false m address block = cached m address block

-- The media that a device had, the first one and one more after each write, and the medium that it has now. A sync adds none:
-- what may be left after it might have been left before it.
pub record Held : Type 0 where
  pub media : List Medium
  pub now : Medium

-- a device that was just begun
abbrev pub begun : Medium → Held
begun m = record { media = m ∷ []; now = m }

-- one more write
abbrev pub wrote : Bool → Held → ℕ → List ℕ → Held
wrote keeps_order h address block = record { media = h.media ++ written keeps_order h.now address block ∷ []; now = written keeps_order h.now address block }

-- a sync that was answered
abbrev pub synced : Held → Held
synced h = record h { now = settled h.now }

-- the images that it answered, one at first and one after each write: what a stop of the process leaves
abbrev pub images_held : Held → List (List (List ℕ))
images_held h = map image_of h.media

-- one more step of a device that keeps order (true) or does not
abbrev pub step : Bool → Held → Step → Held
step keeps_order h (Wrote a block) = wrote keeps_order h a block
step keeps_order h Synced = synced h

-- the same after these steps, the first first
abbrev pub held_after : Bool → Held → List Step → Held
held_after keeps_order h [] = h
held_after keeps_order h (s ∷ ss) = held_after keeps_order (step keeps_order h s) ss

-- the writes among these steps
abbrev pub writes_in : List Step → List Write
writes_in [] = []
writes_in (Wrote a block ∷ ss) = (a, block) ∷ writes_in ss
writes_in (Synced ∷ ss) = writes_in ss

-- writes as steps
abbrev pub steps_of : List Write → List Step
steps_of ws = map (λ w. Wrote w.0 w.1) ws

-- so many blocks, each whole, and no write beside them
pub record IsWhole (count : ℕ) (m : Medium) : Type 0 where
  pub as_many : length m.durable ≡ count
  pub durable : All IsBlock m.durable
  pub loose : All (IsWriteTo count) m.loose

-- at no moment a write might have been lost
pub record IsInOrder (h : Held) : Type 0 where
  pub media : All (λ (m : Medium). m.loose ≡ []) h.media
  pub now : h.now.loose ≡ []
