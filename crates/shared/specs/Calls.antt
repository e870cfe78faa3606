-- What a call does to a volume with its trace, and what is known of a call of which a lock hides the volume.
use Rattle.std.specs.Prelude.{◌≡◌, ◌≢◌, ◌↔◌, ◌+◌, ◌<◌, ◌≤◌, ◌^◌, ℕ, List, [], length, Err, Result, IfErr, IfOk, IsOk, OnErr, OnOk}
use Rattle.std.specs.List.{count_by}
use Rattle.layout.specs.declared.refusal.Refusal.{Refusal}
use Rattle.layout.specs.declared.refusal.Refusal.TheVariants.{TraceFull}
use Rattle.device.specs.Media.{Held}
use Rattle.softdep.specs.Queued.{NothingNext, unsynced_of}
use Rattle.snapshot.specs.Alive.{Alive}
use Rattle.snapshot.specs.Between.{Applied, could_go}
use Rattle.snapshot.specs.Refusing.{IsCause}
use Rattle.snapshot.specs.Writes.{Writes}
use Rattle.snapshot.specs.declared.answer.Answer.{Answer}
use Rattle.snapshot.specs.declared.answer.Answer.TheVariants.{Number}
use Rattle.snapshot.specs.declared.command.Command.{Command}
use Rattle.snapshot.specs.declared.command.Command.TheVariants.{Flush, Repair, Sync}
use Rattle.shared.specs.declared.counts.Counts.{Counts}
use Rattle.shared.specs.Next.{IsNext}
use Rattle.shared.specs.Noted.{AddsEntry}
use Rattle.shared.specs.Opened.{Opened}
use Rattle.shared.specs.Repairing.{is_repair_entry}
use Rattle.shared.specs.Shown.{Shown}
use Rattle.shared.specs.Traces.{HasHistory}

-- before the first call
abbrev pub no_calls : Counts
no_calls = record { repairs = 0; others = 0 }

-- A call of a command did this to a volume with its trace, over devices that tell so whether they were honest, what they held and what they hold; and it got this reply.
pub record IsCall {D : Type 0} (honest : D → Type 0) (held_of : D → Held) (image_of : D → List (List ℕ)) (old : Shown D) (command : Command) (reply : Result Answer Refusal) (new : Shown D) : Type 0 where
  -- it is refused exactly if the trace has no room, and then nothing changes
  pub full : (reply ≡ Err TraceFull) ↔ (length old.trace ≡ old.limit)
  pub unchanged : reply ≡ Err TraceFull → new ≡ old
  -- else the volume gave this reply, and the trace has one entry more, of this command and this reply
  pub applied : reply ≢ Err TraceFull → honest new.volume.device → Applied held_of image_of old.volume command reply new.volume
  pub writes : reply ≢ Err TraceFull → Writes honest held_of image_of old.volume command reply new.volume
  -- and it refused for a cause, whatever its device did
  pub error : reply ≢ Err TraceFull → IfErr reply (IsCause old.volume command)
  pub entry : reply ≢ Err TraceFull → AddsEntry old.trace new.trace command reply
  -- a refused one leaves what users see, what is open and held, and the repairs
  pub untouched : OnErr reply ((new.volume.kept ≡ old.volume.kept) × (new.volume.holdings ≡ old.volume.holdings))
  -- a flush counts the updates of its block that could go
  pub flushed : (a : ℕ) → command ≡ Flush a → honest new.volume.device → IfOk reply (λ answer. answer ≡ Number (could_go old.volume a))
  -- after a sync all is durable
  pub synced : command ≡ Sync → IfOk reply (λ answer. unsynced_of new.volume.queue ≡ [])
  pub before : new.before ≡ old.before
  pub limit : new.limit ≡ old.limit

-- a flush of the next block got this reply
abbrev pub FlushesNext : {D : Type 0} → (D → Type 0) → (D → Held) → (D → List (List ℕ)) → Shown D → Result Answer Refusal → Shown D → Type 0
FlushesNext honest held_of image_of old reply new = (a : ℕ) × IsNext old.volume.queue a × IsCall honest held_of image_of old (Flush a) reply new

-- an answer counts updates that were written, and none exactly where none could be
abbrev pub CountsSome : {D : Type 0} → Alive D → Answer → Type 0
CountsSome live answer = (n : ℕ) × (answer ≡ Number n) × ((n ≡ 0) ↔ NothingNext live.queue)

-- The trace was emptied, and its calls count among those before it; or a count would have become too large, and nothing changed.
pub record IsRotation {D : Type 0} (old : Shown D) (result : Result (Unit {0}) Refusal) (new : Shown D) : Type 0 where
  pub repairs : OnOk result (new.before.repairs ≡ old.before.repairs + count_by is_repair_entry old.trace)
  pub others : OnOk result (new.before.others + count_by is_repair_entry old.trace ≡ old.before.others + length old.trace)
  pub trace : OnOk result (new.trace ≡ [])
  pub volume : new.volume ≡ old.volume
  pub limit : new.limit ≡ old.limit
  pub full : IsOk result ↔ ((old.before.repairs + count_by is_repair_entry old.trace < 2 ^ 64) × (old.before.others + length old.trace < 2 ^ 64 + count_by is_repair_entry old.trace))
  pub unchanged : OnErr result (new ≡ old)

-- ---- under a lock, which hides the volume: calls of some volume of one sharing

-- A volume with its trace is of a sharing: the trace has this limit, and its calls and those before it led to the volume from one that was opened so.
pub record IsOfSharing {D : Type 0} (honest : D → Type 0) (held_of : D → Held) (image_of : D → List (List ℕ)) (limit : ℕ) (opens : Opened → Type 0) (b : Shown D) : Type 0 where
  pub limit_is : b.limit ≡ limit
  pub short : length b.trace ≤ limit
  pub history : honest b.volume.device → HasHistory held_of image_of opens b.before b.trace b.volume

-- a command got this reply
pub record IsCallOf {D : Type 0} (honest : D → Type 0) (held_of : D → Held) (image_of : D → List (List ℕ)) (limit : ℕ) (opens : Opened → Type 0) (command : Command) (reply : Result Answer Refusal) : Type 0 where
  pub some : 1 ≤ limit
  pub old : Shown D
  pub new : Shown D
  pub shared : IsOfSharing honest held_of image_of limit opens old
  pub call : IsCall honest held_of image_of old command reply new

-- a flush of the next block did
pub record IsFlushOf {D : Type 0} (honest : D → Type 0) (held_of : D → Held) (image_of : D → List (List ℕ)) (limit : ℕ) (opens : Opened → Type 0) (reply : Result Answer Refusal) : Type 0 where
  pub some : 1 ≤ limit
  pub old : Shown D
  pub new : Shown D
  pub shared : IsOfSharing honest held_of image_of limit opens old
  pub address : ℕ
  pub next : IsNext old.volume.queue address
  pub call : IsCall honest held_of image_of old (Flush address) reply new

-- the trace was emptied, or not
pub record IsRotationOf {D : Type 0} (honest : D → Type 0) (held_of : D → Held) (image_of : D → List (List ℕ)) (limit : ℕ) (opens : Opened → Type 0) (result : Result (Unit {0}) Refusal) : Type 0 where
  pub some : 1 ≤ limit
  pub old : Shown D
  pub new : Shown D
  pub shared : IsOfSharing honest held_of image_of limit opens old
  pub rotation : IsRotation old result new

-- the repair of a place got this reply
abbrev pub IsRepairOf : {D : Type 0} → (D → Type 0) → (D → Held) → (D → List (List ℕ)) → ℕ → (Opened → Type 0) → ℕ → Result Answer Refusal → Type 0
IsRepairOf honest held_of image_of limit opens place reply = IsCallOf honest held_of image_of limit opens (Repair place) reply
