-- What a volume was that is shared.
use Rattle.std.specs.Prelude.{ℕ, List}
use Rattle.device.specs.Media.{Held}
use Rattle.snapshot.specs.Alive.{Alive}

-- the volume, with what its device had held and held in place of the device
abbrev pub Opened : Type 0
Opened = Alive (Held × List (List ℕ))

abbrev pub opened_of : {D : Type 0} → (D → Held) → (D → List (List ℕ)) → Alive D → Opened
opened_of held_of image_of live = record { device = (held_of live.device, image_of live.device); queue = live.queue; kept = live.kept; holdings = live.holdings }
