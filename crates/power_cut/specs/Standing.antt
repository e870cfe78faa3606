-- A moment of a volume, and the medium of its device.
use Rattle.std.specs.Prelude.{◌≡◌, ℕ, ◌<◌, List, [], ◌∷◌, ◌++◌, length}
use Rattle.model.specs.Image.{block_at}
use Rattle.device.specs.Writes.{Write}
use Rattle.device.specs.Media.{Medium}
use Rattle.power_cut.specs.Epochs.{Put}
use Rattle.power_cut.specs.Volumes.{Moment}

-- the writes of a device, the first first, where the puts stand newest first
abbrev pub writes_of : List Put → List Write
writes_of [] = []
writes_of (p ∷ ps) = writes_of ps ++ (p.address, p.bytes) ∷ []

abbrev pub AreWithin : ℕ → List Put → Type 0
AreWithin count [] = Unit {0}
AreWithin count (p ∷ ps) = (p.address < count) × AreWithin count ps

-- what is durable on the medium is what the moment says, and what is loose are its writes since the last sync
pub record StandsOn (m : Medium) (n : Moment) : Type 0 where
  pub durable : block_at m.durable ≡ n.durable
  pub loose : m.loose ≡ writes_of n.loose
  pub within : AreWithin (length m.durable) n.loose
