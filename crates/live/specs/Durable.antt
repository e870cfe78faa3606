-- What is durable of a mounted volume on the medium of its device, and what a loss of power leaves there.
use Rattle.std.specs.Prelude.{◌≡◌, ◌⊎◌, ◌<◌, ℕ, Bool, List, [], ◌∷◌, ◌++◌, All, IsTrue, Option, None, if◌then◌else◌, length, map, nat_lt, slice_index, unwrap_or}
use Rattle.std.specs.List.{Contains}
use Rattle.model.specs.Image.{image_view}
use Rattle.model.specs.Layout.{Geometry}
use Rattle.model.specs.Reach.{IsReachable}
use Rattle.model.specs.Cells.{SetInode}
use Rattle.model.specs.View.{View, Inode}
use Rattle.device.specs.Media.{Held, MayBeLeft, Medium, image_of}
use Rattle.ordering.specs.Cuts.{IsClosed, seen, users_view}
use Rattle.machine.specs.Command.{Command, Write}
use Rattle.machine.specs.Looks.{Looks, looks}
use Rattle.machine.specs.State.{handle_count}
use Rattle.queue_model.specs.Files.{IsFileBlock, Written, generation, shown, updates}
use Rattle.queue_model.specs.History.{Holds}
use Rattle.queue_model.specs.Course.{IsSafeImage}
use Rattle.cut_courses.specs.Durably.{IsDurably}
use Rattle.softdep.specs.Queued.{Queued, AreClosed, unsynced_of, pending_of}
use Rattle.softdep.specs.OnMedium.{IsOnMedium}
use Rattle.live_states.specs.Holdings.{held_by, opened_by}
use Rattle.live_states.specs.Planned.{safe_after}
use Rattle.live.specs.Alive.{Alive}
use Rattle.live.specs.Mounting.{IsMountable}
use Rattle.live.specs.Seen.{seen_of}

-- A volume is sound on a medium: what is durable there, and what is not durable over it, are a good moment, of which these files are safe, and are files; and the medium holds what its queue was given.
pub record IsSound (m : Medium) (geo : Geometry) (queue : Queued) (held safe : ℕ → Bool) : Type 0 where
  pub geometry : queue.geometry ≡ geo
  pub closed : AreClosed queue
  pub durably : IsDurably geo (image_view geo m.durable) (unsynced_of queue) (image_view geo (image_of m)) (pending_of queue) held safe
  pub files : (f : ℕ) → IsTrue (safe f) → ((users_view (image_view geo (image_of m)) (pending_of queue)).inode f).mode ≡ 1
  pub mounted : View
  pub on : IsOnMedium mounted queue m

abbrev pub IsSoundOn : {D : Type 0} → Medium → Alive D → (ℕ → Bool) → Type 0
IsSoundOn m live safe = IsSound m live.kept.geometry live.queue (held_by live.holdings) safe

-- Whatever a loss of power leaves of a medium can be mounted, and reaches these files.
abbrev pub LeavesSafe : Geometry → (ℕ → Bool) → Medium → Type 0
LeavesSafe geo safe m = (image : List (List ℕ)) → MayBeLeft m image → IsMountable geo image × ((f : ℕ) → IsTrue (safe f) → IsReachable geo (image_view geo image) f)

-- each medium that a device had since leaves what is safe
pub record HeldSafely (geo : Geometry) (held held' : Held) (safe : ℕ → Bool) : Type 0 where
  pub more : List Medium
  pub media : held'.media ≡ held.media ++ more
  pub each : All (LeavesSafe geo safe) more

-- Whatever a loss of power leaves of a medium is what a closed cut of these updates shows over a view: it obeys the rules, reaches these files, and holds in each block of a file what an update of that very file wrote, or what it had there in that view.
abbrev pub LeavesShown : Geometry → View → List Written → (ℕ → Bool) → Medium → Type 0
LeavesShown geo view written safe m = (image : List (List ℕ)) → MayBeLeft m image → (cut : List Bool) × (image_view geo image ≡ seen view (updates written) cut) × IsSafeImage geo view written cut safe

-- What was written since some mount got longer by this; each medium that the device had since leaves what a closed cut of all of it shows over the view at that mount.
pub record AddsOnly {D : Type 0} (held : Held) (old : Alive D) (held' : Held) (new : Alive D) (safe safe' : ℕ → Bool) (s : IsSoundOn held.now old safe) (s' : IsSoundOn held'.now new safe') : Type 0 where
  pub mount : s'.durably.mount ≡ s.durably.mount
  pub added : List Written
  pub history : s'.durably.history ≡ added ++ s.durably.history
  pub more : List Medium
  pub media : held'.media ≡ held.media ++ more
  pub each : All (LeavesShown old.kept.geometry s.durably.mount (added ++ s.durably.history) safe') more

-- ---- whose bytes a loss of power shows

-- Bytes that are written at a position of a file.
pub record Piece : Type 0 where
  pub file : ℕ
  pub position : ℕ
  pub bytes : List ℕ

-- what a command writes, where these handles are open
abbrev pub pieces_of : (ℕ → Option ℕ) → Command → List Piece
pieces_of opened (Write h k bytes) = record { file = unwrap_or (if nat_lt h handle_count then opened h else None) 0; position = k; bytes = bytes } ∷ []
pieces_of opened _ = []

-- a piece that was written, and which file its number was then, as `generation` counts since some mount
pub record Put : Type 0 where
  pub generation : ℕ
  pub piece : Piece

-- Pieces were put one after another while this was written behind what was, each into the file that its number was then.
pub data PutAlong (mount : View) (start : List Written) : List Written → List Put → Type 0 where
  Starts : PutAlong mount start start []
  Writes : {h : List Written} {puts : List Put} (w : Written) → PutAlong mount start h puts → PutAlong mount start (w ∷ h) puts
  Puts : {h : List Written} {puts : List Put} (piece : Piece) → PutAlong mount start h puts → PutAlong mount start h (record { generation = generation mount h piece.file; piece = piece } ∷ puts)

-- The file that a number is, of this generation, may show this as byte j at position k: a zero, that byte of a piece that was put there into this very file, or what the very file had there in the view of the mount.
abbrev pub MayShow : Geometry → View → List Put → (n g k j byte : ℕ) → Type 0
MayShow geo mount puts n g k j byte =
    (byte ≡ 0)
    ⊎ (((bytes : List ℕ) × Contains puts (record { generation = g; piece = record { file = n; position = k; bytes = bytes } }) × (j < length bytes) × (slice_index bytes j ≡ byte))
    ⊎ ((g ≡ 0) × ((a : ℕ) × IsFileBlock geo mount n k a × (slice_index (mount.bytes a) j ≡ byte))))

-- each byte of a block may be shown so
abbrev pub MayHave : Geometry → View → List Put → ℕ → ℕ → ℕ → List ℕ → Type 0
MayHave geo mount puts n g k bytes = (j : ℕ) → MayShow geo mount puts n g k j (slice_index bytes j)

-- After this was written since a mount, of which this cut is durable, each block of a file has such bytes, as users see it and as each closed cut shows it that holds what is durable.
pub record Owns (geo : Geometry) (mount : View) (history : List Written) (cut : List Bool) (puts : List Put) : Type 0 where
  pub users : (n k b : ℕ) → IsFileBlock geo (users_view mount (updates history)) n k b → MayHave geo mount puts n (generation mount history n) k ((users_view mount (updates history)).bytes b)
  pub cuts : (more : List Bool) → IsClosed (updates history) more → Holds more cut → (n k b : ℕ) → IsFileBlock geo (seen mount (updates history) more) n k b
      → MayHave geo mount puts n (shown mount history more n) k ((seen mount (updates history) more).bytes b)

-- Whatever a loss of power leaves of a medium is what a closed cut of these updates shows over a view, with such bytes in each block of a file.
abbrev pub LeavesOwn : Geometry → View → List Written → List Put → Medium → Type 0
LeavesOwn geo mount written puts m = (image : List (List ℕ)) → MayBeLeft m image
    → (cut : List Bool) × (image_view geo image ≡ seen mount (updates written) cut) × IsClosed (updates written) cut
    × ((n k b : ℕ) → IsFileBlock geo (image_view geo image) n k b → MayHave geo mount puts n (shown mount written cut n) k ((image_view geo image).bytes b))

-- These pieces were put too since this was written, and each medium that the device had since leaves such bytes.
pub record OwnsMore (geo : Geometry) (mount : View) (start history : List Written) (cut : List Bool) (asked : List Piece) (puts : List Put) (more : List Medium) : Type 0 where
  pub added : List Put
  pub pieces : map (λ (put : Put). put.piece) added ≡ asked
  pub along : PutAlong mount start history added
  pub owns : Owns geo mount history cut (added ++ puts)
  pub each : All (LeavesOwn geo mount history (added ++ puts)) more

-- ---- how a loss of power shows an inode

-- the number looks so in one of these views
abbrev pub LooksAsIn : List View → ℕ → Looks → Type 0
LooksAsIn views n so = (view : View) × Contains views view × (so ≡ looks (view.inode n))

-- a record that this writes looks as in one of these views
abbrev pub WritesLooksOf : List View → Written → Type 0
WritesLooksOf views w = (n : ℕ) (x : Inode) → w.update.change ≡ SetInode n x → LooksAsIn views n (looks x)

-- ---- what a volume goes through

-- Where a volume was sound on the medium of its device it is so then, no file more is safe, and each medium that the device had since leaves what is safe then. Where files had their own bytes they have them then, but for these pieces, which users wrote; and each record that was written since looks as in one of these views, which users saw.
pub record GoesSoundly {D : Type 0} (held : Held) (old : Alive D) (held' : Held) (new : Alive D) (safe safe' : ℕ → Bool) (asked : List Piece) (views : List View) : Type 0 where
  pub geometry : new.kept.geometry ≡ old.kept.geometry
  pub fewer : (f : ℕ) → IsTrue (safe' f) → IsTrue (safe f)
  pub sound : IsSoundOn held.now old safe → IsSoundOn held'.now new safe' × HeldSafely old.kept.geometry held held' safe'
  pub adds : (s : IsSoundOn held.now old safe) → AddsOnly held old held' new safe safe' s (sound s).0
  pub owns : (s : IsSoundOn held.now old safe) (puts : List Put) → Owns old.kept.geometry s.durably.mount s.durably.history s.durably.cut puts
      → OwnsMore old.kept.geometry (sound s).0.durably.mount s.durably.history (sound s).0.durably.history (sound s).0.durably.cut asked puts (adds s).more
  pub looking : (s : IsSoundOn held.now old safe) → All (WritesLooksOf views) (adds s).added

-- whichever files are safe, they stay so, and nothing is written to a file
abbrev pub StaysSound : {D : Type 0} → (D → Held) → Alive D → Alive D → Type 0
StaysSound held_of old new = (safe : ℕ → Bool) → GoesSoundly (held_of old.device) old (held_of new.device) new safe safe [] []

-- and after a command, but for the file of which it took a name, and for what it writes; each record that it writes has the size that users saw before it, or that which they see then
abbrev pub StaysSoundAfter : {D : Type 0} → (D → Held) → (D → List (List ℕ)) → Alive D → Command → Alive D → Type 0
StaysSoundAfter held_of image_of old command new =
    (safe : ℕ → Bool) → GoesSoundly (held_of old.device) old (held_of new.device) new safe (safe_after old.kept.geometry (seen_of image_of old) command safe)
    (pieces_of (opened_by old.holdings) command) (seen_of image_of new ∷ seen_of image_of old ∷ [])
