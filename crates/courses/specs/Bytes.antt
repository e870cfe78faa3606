-- Whose bytes stand in the blocks of files, byte by byte.
use Rattle.std.specs.Prelude.{◌≡◌, ℕ, ◌<◌, Bool, List, [], ◌⊎◌, length, slice_index}
use Rattle.std.specs.List.{Contains}
use Rattle.model.specs.Layout.{Geometry}
use Rattle.model.specs.View.{View}
use Rattle.ordering.specs.Cuts.{Pending, IsClosed, seen, users_view}
use Rattle.machine.specs.State.{State}
use Rattle.machine.specs.Command.{Command, Write, Answer, Reply}
use Rattle.machine.specs.Causes.{file_of}
use Rattle.plans_data.specs.Lists.{let_go_below}
use Rattle.plans_data.specs.Release.{releasing}
use Rattle.queue_model.specs.History.{Holds}
use Rattle.queue_model.specs.Files.{Written, updates, generation, shown, IsFileBlock}
use Rattle.courses.specs.Leads.{Named}
use Rattle.courses.specs.Serves.{Serves, ByPlan, Releases, Service, Starts, CarriesOut, Refuses, Flushed}

-- ---- what was written, and which pieces

-- What was written once a command is carried out, after what was before: the updates of its plan, in the name of the plan's file; those at a snapshot's end name 0.
abbrev pub Records : {geo : Geometry} {disk : View} {q : List Pending} {old : State} {safe : ℕ → Bool} {command : Command} {answer : Answer} {disk' : View} {q' : List Pending} {new : State} {safe' : ℕ → Bool} {later : List View}
    → View → List Written → List Written → Serves geo disk q old safe command answer disk' q' new safe' later → Type 0
Records {geo = geo} {q = q} mounted before h' (ByPlan command answer file plan new safe' done rest) = Named geo mounted file before q h' plan
Records {geo = geo} {old = old} mounted before h' (Releases s blocks views disk' n writes few) = Named geo mounted 0 before [] h' (releasing (let_go_below old s n) [])
Records mounted before h' _ = h' ≡ before

-- What was written in a service, after what was written before it.
abbrev pub Recorded : {geo : Geometry} {disk0 : View} {q0 : List Pending} {old0 : State} {safe0 : ℕ → Bool} {disk : View} {q : List Pending} {new : State} {safe : ℕ → Bool} {commands : List Command} {replies : List Reply} {images : List View}
    → View → List Written → List Written → Service geo disk0 q0 old0 safe0 disk q new safe commands replies images → Type 0
Recorded mounted h h' Starts = h' ≡ h
Recorded mounted h h' (CarriesOut command answer disk' q' new safe' later service accepts serves) = (before : List Written) × Recorded mounted h before service × Records mounted before h' serves
Recorded mounted h h' (Refuses command r service step) = Recorded mounted h h' service
Recorded mounted h h' (Flushed a cut service closed of_block) = Recorded mounted h h' service

-- The command writes this piece at position k of file n.
abbrev pub AsksWrite : State → Command → ℕ → ℕ → List ℕ → Type 0
AsksWrite old (Write h j written) n k piece = (file_of old h ≡ n) × (j ≡ k) × (written ≡ piece)
AsksWrite old _ n k piece = ⊥

-- A write of this piece at position k was carried out by a handle that was open on this very file: number n, of this generation.
abbrev pub WasWritten : {geo : Geometry} {disk0 : View} {q0 : List Pending} {old0 : State} {safe0 : ℕ → Bool} {disk : View} {q : List Pending} {new : State} {safe : ℕ → Bool} {commands : List Command} {replies : List Reply} {images : List View}
    → (mounted : View) (h h' : List Written) (n g k : ℕ) (piece : List ℕ) (service : Service geo disk0 q0 old0 safe0 disk q new safe commands replies images) → Recorded mounted h h' service → Type 0
WasWritten mounted h h' n g k piece Starts recorded = ⊥
WasWritten mounted h h' n g k piece (CarriesOut {old = old} command answer disk' q' new safe' later service accepts serves) recorded =
    WasWritten mounted h recorded.0 n g k piece service recorded.1 ⊎ (AsksWrite old command n k piece × (generation mounted recorded.0 n ≡ g))
WasWritten mounted h h' n g k piece (Refuses command r service step) recorded = WasWritten mounted h h' n g k piece service recorded
WasWritten mounted h h' n g k piece (Flushed a cut service closed of_block) recorded = WasWritten mounted h h' n g k piece service recorded

-- ---- bytes

-- The file had this byte there at the beginning: in the users' view, or in what a stop would have left then.
abbrev pub HadThere : Geometry → View → List Written → List Bool → ℕ → ℕ → ℕ → ℕ → ℕ → Type 0
HadThere geo mounted h cut n g k j byte =
    ((a : ℕ) × IsFileBlock geo (users_view mounted (updates h)) n k a × (generation mounted h n ≡ g) × (slice_index ((users_view mounted (updates h)).bytes a) j ≡ byte))
    ⊎ ((more : List Bool) × IsClosed (updates h) more × Holds more cut
    × ((a : ℕ) × IsFileBlock geo (seen mounted (updates h) more) n k a × (shown mounted h more n ≡ g) × (slice_index ((seen mounted (updates h) more).bytes a) j ≡ byte)))

-- This very file may have this as byte j at position k: it is a zero, or byte j of a piece that was written there to this very file, or the file had it there at the beginning.
abbrev pub IsOwnByte : {geo : Geometry} {disk0 : View} {q0 : List Pending} {old0 : State} {safe0 : ℕ → Bool} {disk : View} {q : List Pending} {new : State} {safe : ℕ → Bool} {commands : List Command} {replies : List Reply} {images : List View}
    → (mounted : View) (h : List Written) (cut : List Bool) (h' : List Written) (service : Service geo disk0 q0 old0 safe0 disk q new safe commands replies images) → Recorded mounted h h' service → (n g k j byte : ℕ) → Type 0
IsOwnByte {geo = geo} mounted h cut h' service recorded n g k j byte =
    (byte ≡ 0) ⊎ (((piece : List ℕ) × WasWritten mounted h h' n g k piece service recorded × (j < length piece) × (slice_index piece j ≡ byte)) ⊎ HadThere geo mounted h cut n g k j byte)

-- The image is that of a closed cut, and each byte of each block of a file in it is the file's own.
pub record ShowsOwnBytes {geo : Geometry} {disk0 : View} {q0 : List Pending} {old0 : State} {safe0 : ℕ → Bool} {disk : View} {q : List Pending} {new : State} {safe : ℕ → Bool} {commands : List Command} {replies : List Reply} {images : List View}
    (mounted : View) (h : List Written) (cut : List Bool) (h' : List Written) (service : Service geo disk0 q0 old0 safe0 disk q new safe commands replies images) (recorded : Recorded mounted h h' service) (image : View) : Type 0 where
  pub less : List Bool
  pub shows : image ≡ seen mounted (updates h') less
  pub closed : IsClosed (updates h') less
  pub own : (n k a j : ℕ) → IsFileBlock geo image n k a → IsOwnByte mounted h cut h' service recorded n (shown mounted h' less n) k j (slice_index (image.bytes a) j)

-- So does each image that the device held during a service.
pub record IsOwnService {geo : Geometry} {disk0 : View} {q0 : List Pending} {old0 : State} {safe0 : ℕ → Bool} {disk : View} {q : List Pending} {new : State} {safe : ℕ → Bool} {commands : List Command} {replies : List Reply} {images : List View}
    (mounted : View) (h : List Written) (cut : List Bool) (service : Service geo disk0 q0 old0 safe0 disk q new safe commands replies images) : Type 0 where
  pub h' : List Written
  pub recorded : Recorded mounted h h' service
  pub own : (image : View) → Contains images image → ShowsOwnBytes mounted h cut h' service recorded image
