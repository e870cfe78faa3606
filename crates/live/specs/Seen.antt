-- A mounted volume and what its device holds, where image_of tells what a device holds, and held_of what it held.
use Rattle.std.specs.Prelude.{ℕ, List, [], Option, MatchOption, Ok}
use Rattle.model.specs.View.{View}
use Rattle.device.specs.Media.{Held}
use Rattle.machine.specs.Command.{Answer, Command}
use Rattle.machine.specs.State.{State}
use Rattle.machine.specs.Step.{Step}
use Rattle.ordering.specs.Cuts.{users_view}
use Rattle.softdep.specs.Queued.{IsLeastNext, IsNext, NothingNext, NothingNextFrom, pending_of}
use Rattle.softdep.specs.Syncing.{AreFlushes, AreWrites}
use Rattle.live_states.specs.Holdings.{Beside}
use Rattle.live.specs.Alive.{Alive, Answers, disk_of, state_of}
use Rattle.live.specs.Held.{HeldMore, WritesBlock}

-- what its users see
abbrev pub seen_of : {D : Type 0} → (D → List (List ℕ)) → Alive D → View
seen_of image_of live = users_view (disk_of (image_of live.device) live) (pending_of live.queue)

-- its state, where this stands beside it
abbrev pub state_with : {D : Type 0} → (D → List (List ℕ)) → Alive D → Beside → State
state_with image_of live beside = state_of (image_of live.device) live beside

-- It answered a command so, and the device held no other image.
abbrev pub Answered : {D : Type 0} → (D → List (List ℕ)) → Alive D → Command → Answer → Alive D → Type 0
Answered image_of old command answer new = Answers (image_of old.device) old command answer (image_of new.device) new []

-- It answered a command so, and what the device held since is what the volume wrote for it.
abbrev pub AnsweredByWrites : {D : Type 0} → (D → Held) → (D → List (List ℕ)) → Alive D → Command → Answer → Alive D → Type 0
AnsweredByWrites held_of image_of old command answer new =
    (later : List View) × HeldMore old.kept.geometry (held_of old.device) (held_of new.device) later × Answers (image_of old.device) old command answer (image_of new.device) new later

-- It tells this whenever it is asked, and nothing changes, whatever stands beside it.
abbrev pub Tells : {D : Type 0} → (D → List (List ℕ)) → Alive D → Command → Answer → Type 0
Tells image_of live command answer = (beside : Beside) → Step live.kept.geometry (state_with image_of live beside) command (Ok answer) (state_with image_of live beside)

-- What the device held since is what writes of blocks left, each of a closed cut of what was pending.
abbrev pub Wrote : {D : Type 0} → (D → Held) → (D → List (List ℕ)) → Alive D → Alive D → Type 0
Wrote held_of image_of old new =
    AreWrites old.kept.geometry (image_of old.device) (held_of old.device) (pending_of old.queue) (image_of new.device) (held_of new.device) (pending_of new.queue)

-- It is what flushes of the least ready block left.
abbrev pub Flushed : {D : Type 0} → (D → Held) → (D → List (List ℕ)) → Alive D → Alive D → Type 0
Flushed held_of image_of old new =
    AreFlushes old.kept.geometry (image_of old.device) (held_of old.device) (pending_of old.queue) (image_of new.device) (held_of new.device) (pending_of new.queue)

-- One block was written, once.
abbrev pub WroteBlock : {D : Type 0} → (D → Held) → (D → List (List ℕ)) → ℕ → Alive D → Alive D → Type 0
WroteBlock held_of image_of a old new = WritesBlock a (image_of old.device) (held_of old.device) (image_of new.device) (held_of new.device)

-- the least block with an update that may go to the device, or none, if no block has one
abbrev pub IsLeastReadyOf : {D : Type 0} → Alive D → Option ℕ → Type 0
IsLeastReadyOf live block = MatchOption block (NothingNext live.queue) (IsLeastNext live.queue)

-- the least block from this one on with an update that may go to the device, or none, if there is none
abbrev pub IsNextReadyOf : {D : Type 0} → Alive D → ℕ → Option ℕ → Type 0
IsNextReadyOf live from block = MatchOption block (NothingNextFrom live.queue from) (IsNext live.queue from)
