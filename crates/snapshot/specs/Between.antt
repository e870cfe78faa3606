-- What calls do to a volume, told by the volume before and after: the device says what it held and what it holds.
use Rattle.std.specs.Prelude.{ℕ, List, Result, map}
use Rattle.layout.specs.declared.refusal.Refusal.{Refusal}
use Rattle.device.specs.Media.{Held}
use Rattle.machine.specs.Command.{Command as Request, Install, Reply}
use Rattle.queue_model.specs.Flush.{taken}
use Rattle.frozen.specs.Kept.{Kept}
use Rattle.softdep.specs.Queued.{pending_of, next_cut}
use Rattle.live.specs.Alive.{Alive}
use Rattle.snapshot.specs.declared.answer.Answer.{Answer}
use Rattle.snapshot.specs.declared.command.Command.{Command}
use Rattle.fsck.specs.Checked.{CheckedImage}
use Rattle.snapshot.specs.Asked.{asked, check_of}
use Rattle.snapshot.specs.Goes.{Applies, Freezes, Releases, Replies, Runs}
use Rattle.snapshot.specs.Replied.{Replied}
use Rattle.snapshot.specs.Writes.{WritesBlocks}

-- a command was carried out or refused, with this reply, whatever stands beside the volume then
abbrev pub Applied : {D : Type 0} → (D → Held) → (D → List (List ℕ)) → Alive D → Command → Result Answer Refusal → Alive D → Type 0
Applied held image old command reply new = Applies (held old.device) (image old.device) old (asked old.kept.geometry command) reply (held new.device) (image new.device) new

-- and so were commands, one after another
abbrev pub Ran : {D : Type 0} → (D → Held) → (D → List (List ℕ)) → Alive D → List Command → List (Result Answer Refusal) → Alive D → Type 0
Ran held image old commands replies new = Runs (held old.device) (image old.device) old (map (asked old.kept.geometry) commands) replies (held new.device) (image new.device) new

-- the machine's command got this reply of the machine, and what stands beside the volume stays
abbrev pub GotReply : {D : Type 0} → (D → Held) → (D → List (List ℕ)) → Alive D → Request → Reply → Alive D → Type 0
GotReply held image old request reply new = Replies (held old.device) (image old.device) old request reply (held new.device) (image new.device) new

-- what an install of a check asks of the machine
abbrev pub asks_install : {D : Type 0} → Alive D → CheckedImage → Request
asks_install old checked = Install (check_of old.kept.geometry checked)

-- a snapshot began with this number, and this is the metadata of its image
abbrev pub Froze : {D : Type 0} → (D → Held) → (D → List (List ℕ)) → Alive D → ℕ → Kept → Alive D → Type 0
Froze held image old s snapshot new = Freezes (held old.device) (image old.device) old s snapshot (held new.device) (image new.device) new

-- the snapshot of this number ended
abbrev pub Released : {D : Type 0} → (D → Held) → (D → List (List ℕ)) → Alive D → ℕ → Alive D → Type 0
Released held image old s new = Releases (held old.device) (image old.device) old s (held new.device) (image new.device) new

-- the mounted volume replied so to a command of its users
abbrev pub RepliedSo : {D : Type 0} → (D → Held) → (D → List (List ℕ)) → Alive D → Command → Result Answer Refusal → Alive D → Type 0
RepliedSo held image old command reply new = Replied (held old.device) (image old.device) old (asked old.kept.geometry command) reply (held new.device) (image new.device) new

-- block after block was written, each with a closed cut of what was pending of it
abbrev pub WroteBlocks : {D : Type 0} → (D → Held) → (D → List (List ℕ)) → Alive D → Alive D → Type 0
WroteBlocks held image old new = WritesBlocks old.kept.geometry (pending_of old.queue) (image old.device) (held old.device) (image new.device) (held new.device)

-- how many updates of block a could go to the device over what is durable
abbrev pub could_go : {D : Type 0} → Alive D → ℕ → ℕ
could_go live a = taken (next_cut live.queue a)
