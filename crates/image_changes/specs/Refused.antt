-- What a volume went through of which the last command was refused.
use Rattle.std.specs.Prelude.{◌≡◌, ℕ, List, [], ◌∷◌, ◌++◌, length, take, Err, Result}
use Rattle.layout.specs.declared.refusal.Refusal.{Refusal}
use Rattle.layout.specs.declared.refusal.Refusal.TheVariants.{Device as DeviceRefusal}
use Rattle.device.specs.Media.{Held}
use Rattle.device.specs.Writes.{HasFailed}
use Rattle.snapshot.specs.Alive.{Alive}
use Rattle.snapshot.specs.Between.{Ran}
use Rattle.snapshot.specs.declared.answer.Answer.{Answer}
use Rattle.snapshot.specs.declared.command.Command.{Command}
use Rattle.snapshot.specs.declared.command.Command.TheVariants.{Sync}
use Rattle.image_changes.specs.Changes.{Writes}
use Rattle.image_changes.specs.Stops.{StopsAtRefusal}

-- The device failed in the last command that a volume was asked: the others, with these replies, had led from the volume to the one before it.
pub record FailedLast {D : Type 0} (honest : D → Type 0) (held_of : D → Held) (image_of : D → List (List ℕ)) (failures_of : D → ℕ) (old : Alive D) (commands : List Command) (replies : List (Result Answer Refusal)) (new : Alive D) : Type 0 where
  pub before : Alive D
  pub honest_before : honest before.device → honest old.device
  pub ran : honest before.device → Ran held_of image_of old commands replies before
  pub failed : HasFailed (failures_of before.device) (failures_of new.device)

-- If the last of the replies that commands got blames the device, it failed in that command.
abbrev pub BlamesRightly : {D : Type 0} → (D → Type 0) → (D → Held) → (D → List (List ℕ)) → (D → ℕ) → Alive D → List Command → List (Result Answer Refusal) → Alive D → Type 0
BlamesRightly honest held_of image_of failures_of old commands replies new =
    (earlier : List (Result Answer Refusal)) → replies ≡ earlier ++ Err DeviceRefusal ∷ [] → FailedLast honest held_of image_of failures_of old (take (length earlier) commands) earlier new

-- So it is where a sync was answered behind these commands.
pub record BlamesBeforeSync {D : Type 0} (honest : D → Type 0) (held_of : D → Held) (image_of : D → List (List ℕ)) (failures_of : D → ℕ) (old : Alive D) (commands : List Command) (replies : List (Result Answer Refusal)) (new : Alive D) : Type 0 where
  pub carried : Alive D
  pub blames : BlamesRightly honest held_of image_of failures_of old commands replies carried
  pub honest_then : honest new.device → honest carried.device
  pub writes : honest new.device → Writes (held_of carried.device) (image_of carried.device) carried (held_of new.device) (image_of new.device) new

-- Of these commands each was carried out, or each up to one that was refused; then a sync was refused so.
pub record IsNotWritten {D : Type 0} (held_of : D → Held) (image_of : D → List (List ℕ)) (old : Alive D) (commands : List Command) (r : Refusal) (new : Alive D) : Type 0 where
  pub replies : List (Result Answer Refusal)
  pub stopped : StopsAtRefusal (length commands) replies
  pub ran : Ran held_of image_of old (take (length replies) commands ++ Sync ∷ []) (replies ++ Err r ∷ []) new

-- The device failed in that sync.
pub record FailedToWrite {D : Type 0} (honest : D → Type 0) (held_of : D → Held) (image_of : D → List (List ℕ)) (failures_of : D → ℕ) (old : Alive D) (commands : List Command) (new : Alive D) : Type 0 where
  pub replies : List (Result Answer Refusal)
  pub stopped : StopsAtRefusal (length commands) replies
  pub failed : FailedLast honest held_of image_of failures_of old (take (length replies) commands) replies new
