-- What each command writes to the device of a volume.
use Rattle.std.specs.Prelude.{◌≡◌, ℕ, ◌<◌, List, Ok, Err, Result}
use Rattle.layout.specs.declared.refusal.Refusal.{Refusal}
use Rattle.layout.specs.declared.refusal.Refusal.TheVariants.{NoSnapshot, TooManySnapshots}
use Rattle.model.specs.Layout.{Geometry}
use Rattle.device.specs.Media.{Held}
use Rattle.ordering.specs.Cuts.{Pending}
use Rattle.softdep.specs.Queued.{pending_of}
use Rattle.softdep.specs.Syncing.{AreWrites}
use Rattle.live.specs.Alive.{Alive}
use Rattle.live.specs.Held.{WritesBlock, WritesNothing}
use Rattle.snapshot.specs.declared.command.Command.{Command}
use Rattle.snapshot.specs.declared.command.Command.TheVariants.{Flush, Freeze, Release, Sync}
use Rattle.snapshot.specs.declared.answer.Answer.{Answer}
use Rattle.snapshot.specs.declared.answer.Answer.TheVariants.{Number}

-- A flush writes its block once if it counts an update, and nothing if it counts none; and nothing if it is refused.
abbrev pub WritesFlush : ℕ → Result Answer Refusal → List (List ℕ) → Held → List (List ℕ) → Held → Type 0
WritesFlush a (Ok (Number n)) image held image' held' = (n ≡ 0 → WritesNothing image held image' held') × (0 < n → WritesBlock a image held image' held')
WritesFlush a (Ok answer) image held image' held' = ⊥
WritesFlush a (Err r) image held image' held' = WritesNothing image held image' held'

-- It writes block after block, each with a closed cut of what was pending of it.
abbrev pub WritesBlocks : Geometry → List Pending → List (List ℕ) → Held → List (List ℕ) → Held → Type 0
WritesBlocks geo q image held image' held' = (q' : List Pending) × AreWrites geo image held q image' held' q'

-- A command got this reply, and wrote so, to a device that tells so whether it was honest, what it held and what it holds: a flush its block; a sync, a freeze and a release what is pending, unless one more would be too many, or the one that is to end does not stand; any other one nothing.
abbrev pub Writes : {D : Type 0} → (D → Type 0) → (D → Held) → (D → List (List ℕ)) → Alive D → Command → Result Answer Refusal → Alive D → Type 0
Writes honest held image old (Flush a) reply new = WritesFlush a reply (image old.device) (held old.device) (image new.device) (held new.device)
Writes honest held image old Sync reply new = honest new.device → WritesBlocks old.kept.geometry (pending_of old.queue) (image old.device) (held old.device) (image new.device) (held new.device)
Writes honest held image old Freeze reply new =
    (honest new.device → WritesBlocks old.kept.geometry (pending_of old.queue) (image old.device) (held old.device) (image new.device) (held new.device))
    × (reply ≡ Err TooManySnapshots → WritesNothing (image old.device) (held old.device) (image new.device) (held new.device))
Writes honest held image old (Release number) reply new =
    (honest new.device → WritesBlocks old.kept.geometry (pending_of old.queue) (image old.device) (held old.device) (image new.device) (held new.device))
    × (reply ≡ Err NoSnapshot → WritesNothing (image old.device) (held old.device) (image new.device) (held new.device))
Writes honest held image old command reply new = WritesNothing (image old.device) (held old.device) (image new.device) (held new.device)
