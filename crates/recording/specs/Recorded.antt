-- A device with a list of what was written to it.
use Rattle.std.specs.Prelude.{◌≡◌, ℕ, Bool, List, [], ◌∷◌, map}
use Rattle.device.specs.declared.cache.Step.{Step}
use Rattle.device.specs.Media.{Held, held_after, writes_in}
use Rattle.device.specs.Writes.{Write}
use Rattle.recording.specs.declared.written.Written.{Written}

-- the device below as it was at first, alone in a list, and as it is now, the writes that were made, the first first, and how many failed for want of room in the list
pub record Recorded (D : Type 0) : Type 0 where
  pub first : List D
  pub device : D
  pub writes : List Written
  pub failures : ℕ

-- what was written where
abbrev pub writes_of : List Written → List Write
writes_of ws = map (λ (w : Written). (w.address, w.block)) ws

-- From what it held at first the device came to what it holds now by writes and syncs, and these writes are the recorded ones, in their order: each that was answered, and no other.
pub record IsRecorded {D : Type 0} (keeps_order : Bool) (held_of : D → Held) (first : List D) (device : D) (writes : List Written) : Type 0 where
  pub began : D
  pub first_is : first ≡ began ∷ []
  pub steps : List Step
  pub went : held_of device ≡ held_after keeps_order (held_of began) steps
  pub recorded : writes_in steps ≡ writes_of writes
