-- What a volume went through while it was mended, whatever came of that.
use Rattle.std.specs.Prelude.{ℕ, Bool, true, false, List, All, IsTrue}
use Rattle.device.specs.Media.{Held}
use Rattle.device.specs.Writes.{HasFailed}
use Rattle.machine.specs.Command.{Command, Freeze, Install, Release, RepairAt, Reply, Sync}
use Rattle.live_states.specs.Holdings.{Beside}
use Rattle.snapshot.specs.Alive.{Alive}
use Rattle.snapshot.specs.Stages.{LeadsTo, Stage, StandsAt}

-- a command by which a volume is mended: no user sees anything of it
abbrev pub is_mending : Command → Bool
is_mending Freeze = true
is_mending (Install check) = true
is_mending (RepairAt k) = true
is_mending (Release s) = true
is_mending Sync = true
is_mending _ = false

-- a volume with this beside it, where held_of and image_of tell what its device held and holds
abbrev pub stage_with : {D : Type 0} → (D → Held) → (D → List (List ℕ)) → Alive D → Beside → Stage D
stage_with held_of image_of live beside = record { volume = live; beside = beside; held = held_of live.device; image = image_of live.device }

-- From a volume with this beside it such commands led to another one, and nothing else was done to it.
pub record WentWith {D : Type 0} (held_of : D → Held) (image_of : D → List (List ℕ)) (old : Alive D) (beside : Beside) (new : Alive D) : Type 0 where
  pub beside' : Beside
  pub commands : List Command
  pub replies : List Reply
  pub mending : All (λ command. IsTrue (is_mending command)) commands
  pub leads : LeadsTo (stage_with held_of image_of old beside) commands replies (stage_with held_of image_of new beside')

-- So it was, whatever stood beside it.
abbrev pub Went : {D : Type 0} → (D → Held) → (D → List (List ℕ)) → Alive D → Alive D → Type 0
Went held_of image_of old new = (beside : Beside) → StandsAt (stage_with held_of image_of old beside) → WentWith held_of image_of old beside new

-- The device failed in the last of such commands: the others had led from a volume to the one before it.
pub record FailedOnTheWay {D : Type 0} (honest : D → Type 0) (held_of : D → Held) (image_of : D → List (List ℕ)) (failures_of : D → ℕ) (old new : Alive D) : Type 0 where
  pub before : Alive D
  pub honest_before : honest before.device → honest old.device
  pub went : honest before.device → Went held_of image_of old before
  pub failed : HasFailed (failures_of before.device) (failures_of new.device)
