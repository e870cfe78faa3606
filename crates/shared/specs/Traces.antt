-- What a volume went through by the calls of its trace.
use Rattle.std.specs.Prelude.{◌≡◌, ◌⊎◌, ◌+◌, ℕ, Bool, List, [], ◌∷◌, ◌++◌, IfOk, IsOk, length, map}
use Rattle.std.specs.List.{AllZip, count_by}
use Rattle.machine.specs.Command.{Command, Reply as Response}
use Rattle.model.specs.Layout.{Geometry}
use Rattle.model.specs.View.{View}
use Rattle.device.specs.Media.{Held}
use Rattle.queue_model.specs.Files.{Written}
use Rattle.courses.specs.Serves.{IsSafeService, Service}
use Rattle.softdep.specs.Queued.{pending_of}
use Rattle.live_states.specs.Holdings.{Beside}
use Rattle.snapshot.specs.Alive.{Alive, disk_of, state_of}
use Rattle.snapshot.specs.Held.{HeldMore}
use Rattle.snapshot.specs.Asked.{asked}
use Rattle.snapshot.specs.Goes.{Goes, IsBeside}
use Rattle.snapshot.specs.Stages.{LeadsTo, Stage, geometry_at}
use Rattle.snapshot.specs.Synced.{IsSynced}
use Rattle.snapshot.specs.declared.command.Command.TheVariants.{Sync}
use Rattle.shared.specs.Noted.{IsNoted}
use Rattle.shared.specs.Opened.{Opened, opened_of}
use Rattle.shared.specs.Repairing.{asks_repair}
use Rattle.shared.specs.declared.counts.Counts.{Counts}
use Rattle.shared.specs.declared.entry.Entry.{Entry}

-- what was asked of a volume of this geometry
abbrev pub asked_by : Geometry → List Entry → List Command
asked_by geo trace = map (λ (entry : Entry). asked geo entry.command) trace

-- these replies of the machine are noted in the trace
abbrev pub AreNoted : List Entry → List Response → Type 0
AreNoted trace responses = AllZip (λ (entry : Entry) response. IsNoted entry.reply response) trace responses

-- The calls of a trace led from one stage to another, one after another; behind each sync that was answered all was durable.
pub data Through {D : Type 0} (s : Stage D) : List Entry → List Response → Stage D → Type 0 where
  Begins : Through s [] [] s
  Calls : {trace : List Entry} {responses : List Response} {t : Stage D} (entry : Entry) (response : Response) (u : Stage D) → Through s trace responses t
      → LeadsTo t (asked_by (geometry_at s) (entry ∷ [])) (response ∷ []) u → (entry.command ≡ Sync → IfOk entry.reply (λ answer. IsSynced u))
      → Through s (trace ++ entry ∷ []) (responses ++ response ∷ []) u

-- At this stage a sync of the trace was answered.
abbrev pub IsAfterSync : {D : Type 0} {s : Stage D} {trace : List Entry} {responses : List Response} {now : Stage D} → Stage D → Through s trace responses now → Type 0
IsAfterSync t Begins = ⊥
IsAfterSync t (Calls entry response u through leads synced) = IsAfterSync t through ⊎ ((u ≡ t) × (entry.command ≡ Sync) × IsOk entry.reply)

-- From a volume in balance, the commands of the trace led here, one after another, with replies of which all is noted but images; and so here is balance too.
pub record HasOpening {D : Type 0} (held : Held) (image : List (List ℕ)) (trace : List Entry) (now : Alive D) : Type 0 where
  -- the volume before the first of these calls, what stood beside it, and what its device held and had held
  pub opening : Alive D
  pub opening_beside : Beside
  pub opening_held : Held
  pub opening_image : List (List ℕ)
  pub opens : IsBeside opening_image opening opening_beside
  pub responses : List Response
  pub noted : AreNoted trace responses
  pub beside : Beside
  pub goes : Goes opening_beside opening_held opening_image opening (asked_by opening.kept.geometry trace) responses beside held image now
  pub through : Through (record { volume = opening; beside = opening_beside; held = opening_held; image = opening_image }) trace responses (record { volume = now; beside = beside; held = held; image = image })

-- the volume before the first of these calls, and the present one
abbrev pub opening_at : {D : Type 0} {held : Held} {image : List (List ℕ)} {trace : List Entry} {now : Alive D} → HasOpening held image trace now → Stage D
opening_at o = record { volume = o.opening; beside = o.opening_beside; held = o.opening_held; image = o.opening_image }

abbrev pub now_at : {D : Type 0} {held : Held} {image : List (List ℕ)} {trace : List Entry} {now : Alive D} → HasOpening held image trace now → Stage D
now_at {held = held} {image = image} {now = now} o = record { volume = now; beside = o.beside; held = held; image = image }

-- Before a trace, so many repairs and other calls led to its opening from a volume of which this was known.
pub record HasPast {D : Type 0} (held_of : D → Held) (image_of : D → List (List ℕ)) (opens : Opened → Type 0) (before : Counts)
    {held : Held} {image : List (List ℕ)} {trace : List Entry} {now : Alive D} (o : HasOpening held image trace now) : Type 0 where
  pub first : Alive D
  pub known : opens (opened_of held_of image_of first)
  pub beside : Beside
  pub stands : IsBeside (image_of first.device) first beside
  pub commands : List Command
  pub responses : List Response
  pub repairs : count_by asks_repair commands ≡ before.repairs
  pub calls : length commands ≡ before.repairs + before.others
  pub goes : Goes beside (held_of first.device) (image_of first.device) first commands responses o.opening_beside o.opening_held o.opening_image o.opening

-- A volume with its trace has a history: the calls before the trace and those in it led here, one after another, from a volume of which this was known.
pub record HasHistory {D : Type 0} (held_of : D → Held) (image_of : D → List (List ℕ)) (opens : Opened → Type 0) (before : Counts) (trace : List Entry) (now : Alive D) : Type 0 where
  pub opening : HasOpening (held_of now.device) (image_of now.device) trace now
  pub past : HasPast held_of image_of opens before opening

-- the volume that was shared
abbrev pub first_at : {D : Type 0} {held_of : D → Held} {image_of : D → List (List ℕ)} {opens : Opened → Type 0} {before : Counts} {trace : List Entry} {now : Alive D} → HasHistory held_of image_of opens before trace now → Stage D
first_at {held_of = held_of} {image_of = image_of} h = record { volume = h.past.first; beside = h.past.beside; held = held_of h.past.first.device; image = image_of h.past.first.device }

-- From its opening, which is such a beginning, with these files that no stop is to lose, the volume went through a service of the trace's commands, and each image that the device held since is safe.
pub record IsSafeTrace {D : Type 0} {held : Held} {image : List (List ℕ)} {trace : List Entry} {now : Alive D} (o : HasOpening held image trace now) (mount : View) (h : List Written) (cut : List Bool) (safe : ℕ → Bool) : Type 0 where
  pub later : List View
  pub since : HeldMore o.opening.kept.geometry o.opening_held held later
  pub safe' : ℕ → Bool
  pub service : Service o.opening.kept.geometry (disk_of o.opening_image o.opening) (pending_of o.opening.queue) (state_of o.opening_image o.opening o.opening_beside) safe
      (disk_of image now) (pending_of now.queue) (state_of image now o.beside) safe' (asked_by o.opening.kept.geometry trace) o.responses later
  pub stops : IsSafeService o.opening.kept.geometry mount h cut (disk_of o.opening_image o.opening) (pending_of o.opening.queue) (state_of o.opening_image o.opening o.opening_beside) safe
      (disk_of image now) (pending_of now.queue) (state_of image now o.beside) safe' (asked_by o.opening.kept.geometry trace) o.responses later
