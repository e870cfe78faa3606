-- What a call that only reads leaves of a device.
use Rattle.std.specs.Prelude.{◌≡◌, ℕ, List}
use Rattle.device.specs.Media.{Held}

-- The device holds and held what it did before, and if each read so far gave what stood there, so it was before.
pub record ReadsOnly {D : Type 0} (honest_of : D → Type 0) (image_of : D → List (List ℕ)) (held_of : D → Held) (old new : D) : Type 0 where
  pub same : image_of new ≡ image_of old
  pub held : held_of new ≡ held_of old
  pub honest : honest_of new → honest_of old
