-- What a volume goes through while it is served.
use Rattle.std.specs.Prelude.{◌≡◌, ℕ, Bool, true, false, List, [], ◌∷◌, ◌++◌, length, unwrap_or, Option, Some, None, Result}
use Rattle.attributes.specs.declared.Time.{Time}
use Rattle.device.specs.Media.{Held}
use Rattle.fsck.specs.Checked.{CheckedImage}
use Rattle.fuse_daemon.specs.declared.mending.Mended.{Mended}
use Rattle.fuse_loop.specs.Sessions.{Leaves, Serves, Turning}
use Rattle.fuse_loop.specs.Tended.{TurnsTended}
use Rattle.fuse_loop.specs.declared.LeftError.{LeftError}
use Rattle.fuse_wire.specs.declared.requests.Head.{Head}
use Rattle.fuse_wire.specs.Requests.{Asked, decode}
use Rattle.layout.specs.declared.refusal.Refusal.{Refusal}
use Rattle.shared.specs.Opened.{Opened, opened_of}
use Rattle.upkeep.specs.Calls.{HasMended}
use Rattle.snapshot.specs.declared.answer.Answer.{Answer}
use Rattle.snapshot.specs.declared.command.Command.{Command}
use Rattle.snapshot.specs.declared.command.Command.TheVariants.{Flush, Freeze, Install, Release, Repair, Sync}
use Rattle.fuse_writer.specs.Answers.{doing_of}
use Rattle.fuse_writer.specs.Desks.{AtDesk, at_time, begun, ended, with_links}
use Rattle.fuse_writer.specs.Doings.{Does}
use Rattle.fuse_writer.specs.Requests.{ends, settles_some}
use Rattle.fuse_writer.specs.Turns.{Call, GoesBy}
use Rattle.fuse_reader.specs.Said.{Said}
use Rattle.fuse_reader.specs.declared.desk.Turned.{Turned}

-- A command of upkeep: it is about a snapshot, a check or a repair, or writes what is pending. No name and no byte of a file is changed by it.
abbrev pub is_upkeep : Command → Bool
is_upkeep Freeze = true
is_upkeep (Install checked) = true
is_upkeep (Repair place) = true
is_upkeep (Release number) = true
is_upkeep (Flush address) = true
is_upkeep Sync = true
is_upkeep _ = false

-- What is done to a desk at one go: a turn does what the request of its message leads to; a command of upkeep is carried out between two turns, or some
-- records get what is ahead of them, or the kernel may keep attributes for longer from now on; or all is closed and written at the end of the service, as by DESTROY.
pub data IsPart {D : Type 0} (old new : AtDesk D) : Type 0 where
  ByTurn : (message : List ℕ) (time : Time) (head : Head) (asked : Asked) (said : Said) → decode message ≡ Some (head, asked)
      → Does (doing_of old.volume.kept (at_time time old.session) head asked) (begun old) (at_time time old.session) said (ended new) new.session → IsPart old new
  Unread : (message : List ℕ) (time : Time) → decode message ≡ None → new.session ≡ at_time time old.session → IsPart old new
  Between : (command : Command) (reply : Result Answer Refusal) → is_upkeep command ≡ true → new.calls ≡ (command, reply) ∷ [] → new.session ≡ old.session → IsPart old new
  Settled : (from count : ℕ) (said : Said) → Does (settles_some old.session from count) (begun old) old.session said (ended new) new.session → IsPart old new
  LinksStay : new.calls ≡ [] → new.session ≡ with_links old.session → IsPart old new
  AtEnd : (said : Said) → Does (ends old.volume.kept old.session) (begun old) old.session said (ended new) new.session → IsPart old new

-- so many records from one on get what is ahead of them, up to the first that is refused
abbrev pub SettlesSome : {D : Type 0} → AtDesk D → ℕ → ℕ → AtDesk D → Type 0
SettlesSome old from count new = (said : Said) × Does (settles_some old.session from count) (begun old) old.session said (ended new) new.session

-- Parts led from one desk to the other, one after another, with these calls. The calls of each led from one volume to the next, and nothing else was done
-- to it.
pub data Parts {D : Type 0} (honest : D → Type 0) (held_of : D → Held) (image_of : D → List (List ℕ)) (first : AtDesk D) : List Call → AtDesk D → Type 0 where
  Begins : Parts honest held_of image_of first [] first
  More : (calls : List Call) (mid new : AtDesk D) → Parts honest held_of image_of first calls mid → IsPart mid new
      → GoesBy honest held_of image_of mid.volume new.calls new.volume → Parts honest held_of image_of first (calls ++ new.calls) new

-- From a desk whose volume was known so, parts led here; so their calls led from that volume to this one, and nothing else was done to it.
pub record Went {D : Type 0} (honest : D → Type 0) (held_of : D → Held) (image_of : D → List (List ℕ)) (begins : Opened → Type 0) (now : AtDesk D) : Type 0 where
  pub first : AtDesk D
  pub known : begins (opened_of held_of image_of first.volume)
  pub calls : List Call
  pub parts : Parts honest held_of image_of first calls now
  pub goes : GoesBy honest held_of image_of first.volume calls now.volume

-- the desk, at this time
abbrev pub timed : {D : Type 0} → Time → AtDesk D → AtDesk D
timed time desk = record desk { session = at_time time desk.session }

-- By this message a turn came to this, with this reply, from a desk of this service to another one: at this time, or where none was told at that of the
-- turn before.
pub record TurnsAt {D : Type 0} (honest : D → Type 0) (held_of : D → Held) (image_of : D → List (List ℕ)) (begins : Opened → Type 0)
    (time : Option Time) (message : List ℕ) (turned : Turned) (reply : List ℕ) : Type 0 where
  pub old : AtDesk D
  pub new : AtDesk D
  pub went : Went honest held_of image_of begins old
  pub turn : TurnsTended honest held_of image_of (timed (unwrap_or time old.session.time) old) message turned reply new

-- the same at some time
abbrev pub TurnsSome : {D : Type 0} → (D → Type 0) → (D → Held) → (D → List (List ℕ)) → (Opened → Type 0) → List ℕ → Turned → List ℕ → Type 0
TurnsSome honest held_of image_of begins message turned reply = (time : Option Time) × TurnsAt honest held_of image_of begins time message turned reply

-- the same of a desk of which nothing else is told
abbrev pub some_turn : {D : Type 0} → (D → Type 0) → (D → Held) → (D → List (List ℕ)) → (Opened → Type 0) → Turning (Unit {0})
some_turn honest held_of image_of begins _ message turned reply _ = TurnsSome honest held_of image_of begins message turned reply

-- The messages that a channel took were answered one after another, each by a turn of a desk of this service, and it was given the replies.
abbrev pub ServesSome : {D : Type 0} → (D → Type 0) → (D → Held) → (D → List (List ℕ)) → (Opened → Type 0) → List (List ℕ) → List (List ℕ) → List (List ℕ) → List (List ℕ) → Type 0
ServesSome honest held_of image_of begins taken given new_taken new_given =
    Serves (some_turn honest held_of image_of begins) tt taken given new_taken new_given [] tt

-- The same up to the last message, which was left unanswered for this reason, if one was taken.
abbrev pub LeavesSome : {D : Type 0} → (D → Type 0) → (D → Held) → (D → List (List ℕ)) → (Opened → Type 0) → List (List ℕ) → List (List ℕ) → List (List ℕ) → List (List ℕ) → LeftError → Type 0
LeavesSome honest held_of image_of begins taken given new_taken new_given why =
    Leaves (some_turn honest held_of image_of begins) (λ _ _ _. Unit {0}) tt taken given new_taken new_given why tt

-- A check was made of a snapshot, and so many findings are told, and how many of its repairs were carried out.
abbrev pub TellsOfMending : List Call → List Call → Mended → Type 0
TellsOfMending before after mended = (checked : CheckedImage) × (mended.findings ≡ length checked.findings) × HasMended before after checked mended.repairs
