-- What a volume goes through by a turn.
use Rattle.std.specs.Prelude.{◌≡◌, ℕ, List, map, Result}
use Rattle.layout.specs.declared.refusal.Refusal.{Refusal}
use Rattle.device.specs.Media.{Held}
use Rattle.snapshot.specs.Alive.{Alive}
use Rattle.snapshot.specs.Asked.{asked}
use Rattle.snapshot.specs.Goes.{Runs}
use Rattle.snapshot.specs.Stages.{Stage}
use Rattle.snapshot.specs.declared.answer.Answer.{Answer}
use Rattle.snapshot.specs.declared.command.Command.{Command}

-- a command, and the reply to it
abbrev pub Call : Type 0
Call = Command × Result Answer Refusal

-- what a volume was when a turn began, if one did, what it was asked since, and what it is
pub record Turn (D : Type 0) : Type 0 where
  pub start : List (Alive D)
  pub calls : List Call
  pub volume : Alive D

-- From one volume to the other these calls led, one after another, and nothing else: if the device is honest now, it was so then, and users saw the
-- commands carried out or refused as they were answered.
pub record GoesBy {D : Type 0} (honest : D → Type 0) (held_of : D → Held) (image_of : D → List (List ℕ)) (old : Alive D) (calls : List Call) (new : Alive D) : Type 0 where
  pub honest_before : honest new.device → honest old.device
  pub runs : honest new.device
      → Runs (held_of old.device) (image_of old.device) old (map (asked old.kept.geometry) (map (λ c. c.0) calls)) (map (λ c. c.1) calls)
      (held_of new.device) (image_of new.device) new

-- A stage of this volume: what its device had held and holds, with something beside it.
pub record IsStageOf {D : Type 0} (held_of : D → Held) (image_of : D → List (List ℕ)) (volume : Alive D) (s : Stage D) : Type 0 where
  pub volume_is : s.volume ≡ volume
  pub held_is : s.held ≡ held_of volume.device
  pub image_is : s.image ≡ image_of volume.device
