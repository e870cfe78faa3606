-- The value of a queue: what was issued since it was made, what of it is on the medium for good, and what was written since the device last told so.
use Rattle.std.specs.Prelude.{◌≡◌, ℕ, ◌+◌, ◌<◌, ◌≤◌, ◌==◌, ◌||◌, if◌then◌else◌, Bool, false, List, [], ◌∷◌, length, map}
use Rattle.std.proofs.Common.{Vec, Global}
use Rattle.model.specs.Layout.{Geometry}
use Rattle.ordering.specs.Cuts.{Pending, IsClosed, rest, joined}
use Rattle.queue_model.specs.Blocks.{home_of}
use Rattle.queue_model.specs.Flush.{ready, taken}
use Rattle.queue_model.specs.History.{none_of}
use Rattle.queue_model.specs.Files.{Written, updates}
use Rattle.queue_model.specs.Entries as entries
use Rattle.power_cut.specs.Epochs.{union, beyond}
use Rattle.updates.specs.declared.change.Update.{Update}
use Rattle.updates.specs.Values.{written}
use Rattle.softdep.specs.declared.queue.Kind.{Kind}
use Rattle.softdep.specs.declared.queue.Kind.TheVariants.{Issued, Wrote, Settled}
use Rattle.softdep_queue.specs.declared.table.Table.{Table}
use Rattle.softdep_queue.specs.Ties.{Holds}

-- what was issued, newest first, which of it is durable, and which of what is not durable was written
pub record Queued : Type 0 where
  pub geometry : Geometry
  pub written : List Written
  pub durable : List Bool
  pub loose : List Bool

-- what is not durable, newest first
abbrev pub unsynced_of : Queued → List Pending
unsynced_of queue = rest (updates queue.written) queue.durable

-- which of what was issued is written, whether it is durable or not
abbrev pub cut_of : Queued → List Bool
cut_of queue = joined (updates queue.written) queue.durable queue.loose

-- what is pending, newest first: what is not written
abbrev pub pending_of : Queued → List Pending
pending_of queue = rest (updates queue.written) (cut_of queue)

-- both cuts are closed
pub record AreClosed (queue : Queued) : Type 0 where
  pub durable : IsClosed (updates queue.written) queue.durable
  pub loose : IsClosed (unsynced_of queue) queue.loose

-- all that is written is durable
abbrev pub IsSettled : Queued → Type 0
IsSettled queue = taken queue.loose ≡ 0

-- ---- issues

-- after these were issued, the first first
abbrev pub issued : Queued → List Written → Queued
issued queue [] = queue
issued queue (w ∷ ws) = issued (record queue { written = w ∷ queue.written; durable = false ∷ queue.durable; loose = false ∷ queue.loose }) ws

-- these over what was pending, the first first
abbrev pub added : List Pending → List Written → List Pending
added q [] = q
added q (w ∷ ws) = added (w.update ∷ q) ws

-- a cut that takes none of these, the first first
abbrev pub unmarked : List Bool → List Written → List Bool
unmarked loose [] = loose
unmarked loose (w ∷ ws) = unmarked (false ∷ loose) ws

-- ---- writes

-- what of the pending updates a flush of a block writes: all that may go there over what is durable, but for what is written
abbrev pub next_cut : Queued → ℕ → List Bool
next_cut queue a = beyond queue.loose (ready (home_of queue.geometry) a (unsynced_of queue))

-- after the write of a block with all that may go there
abbrev pub flushed : Queued → ℕ → Queued
flushed queue a = record queue { loose = union queue.loose (ready (home_of queue.geometry) a (unsynced_of queue)) }

-- once the device has told that all that was written is durable
abbrev pub settled : Queued → Queued
settled queue = record queue { durable = cut_of queue; loose = none_of (pending_of queue) }

-- After a flush of a block: on a device that keeps order (true) what is written is durable; on any other one the flush of a block with nothing to write settles what is loose.
abbrev pub after_flush : Bool → Queued → ℕ → Queued
after_flush keeps_order queue a = if keeps_order || taken (next_cut queue a) == 0 then settled (flushed queue a) else flushed queue a

-- ---- which block comes next

abbrev pub HasNext : Queued → ℕ → Type 0
HasNext queue a = 1 ≤ taken (next_cut queue a)

-- the block is the least one of which a flush writes something
pub record IsLeastNext (queue : Queued) (a : ℕ) : Type 0 where
  pub has : HasNext queue a
  pub least : (b : ℕ) → b < a → taken (next_cut queue b) ≡ 0

-- the block is the least such one from this one on
pub record IsNext (queue : Queued) (from a : ℕ) : Type 0 where
  pub above : from ≤ a
  pub has : HasNext queue a
  pub least : (b : ℕ) → from ≤ b → b < a → taken (next_cut queue b) ≡ 0

-- there is none
abbrev pub NothingNext : Queued → Type 0
NothingNext queue = (b : ℕ) → taken (next_cut queue b) ≡ 0

-- there is none from this one on
abbrev pub NothingNextFrom : Queued → ℕ → Type 0
NothingNextFrom queue from = (b : ℕ) → from ≤ b → taken (next_cut queue b) ≡ 0

-- ---- the history that a queue keeps

-- a command's updates, the write of a block, or that the device has told that all is durable
abbrev pub Event : Type 0
Event = Vec Update Global × Kind

abbrev pub after_event : Queued → Event → Queued
after_event queue (us, Issued) = issued queue (map written us.items)
after_event queue (us, Wrote a) = flushed queue a
after_event queue (us, Settled) = settled queue

abbrev pub after : Queued → List Event → Queued
after queue [] = queue
after queue (e ∷ es) = after (after_event queue e) es

-- nothing was issued
abbrev pub fresh_queue : Geometry → Queued
fresh_queue geometry = record { geometry = geometry; written = []; durable = []; loose = [] }

-- the table holds what is not durable and what of it was written, and both cuts are closed
pub record IsQueue (geometry : Geometry) (table : Table) (queued : Queued) : Type 0 where
  pub entries : entries.Queue
  pub holds : Holds geometry table entries (unsynced_of queued) queued.loose
  pub closed : AreClosed queued
  pub same : queued.geometry ≡ geometry

-- the cells that updates change or come after
abbrev pub cells_of : List Update → ℕ
cells_of [] = 0
cells_of (u ∷ us) = (1 + length u.after.items) + cells_of us
