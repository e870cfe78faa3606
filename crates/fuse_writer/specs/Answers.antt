-- What a turn is: what its request leads to, and the reply.
use Rattle.std.specs.Prelude.{◌≡◌, ℕ, ◌+◌, ◌%◌, ◌<◌, List, [], ◌∷◌, map, OnOk, Result, Some, None, slice_index_or, Bool, true, false}
use Rattle.attributes.specs.declared.Time.{Time}
use Rattle.fuse_wire.specs.declared.bodies.Body.TheVariants as bodies
use Rattle.frozen.specs.Kept.{Kept}
use Rattle.fuse_wire.specs.declared.errors.Errno.TheVariants as errors
use Rattle.fuse_wire.specs.declared.requests.Head.{Head}
use Rattle.fuse_wire.specs.Requests as asked
use Rattle.fuse_wire.specs.Requests.{Asked}
use Rattle.machine.specs.Command.{Rmdir, Unlink}
use Rattle.fuse_nodes.specs.Table.{Event, Forgot, found}
use Rattle.softdep.specs.Queued.{unsynced_of}
use Rattle.fuse_reader.specs.Said.{Said, Nothing, spelled, told}
use Rattle.fuse_reader.specs.Turns.{agreed, forgot_by}
use Rattle.fuse_writer.specs.declared.making.New.{New}
use Rattle.fuse_writer.specs.declared.session.Session.{Session}
use Rattle.fuse_writer.specs.Desks.{at_time}
use Rattle.fuse_writer.specs.Doings.{Change, Does, Doing, Notes, Says, noted, refuses, says_done}
use Rattle.fuse_writer.specs.Requests as does
use Rattle.fuse_writer.specs.Turns.{Turn}

-- of what the kernel offers: what is taken where an image is read alone, and listings that tell what names lead to (bit 13)
abbrev pub served : ℕ
served = 4464673

-- it is refused, since the desk does no such thing
abbrev pub never : Doing
never = refuses errors.NotImplemented

-- a new inode of who asks: a node of the kind that its mode says, a file, a directory, or a link that all may use
abbrev pub new_node : Head → ℕ → ℕ → New
new_node head mode device = record { mode = mode; device = device; user = head.user; group = head.group }

abbrev pub new_file : Head → ℕ → New
new_file head mode = new_node head (32768 + mode % 4096) 0

abbrev pub new_directory : Head → ℕ → New
new_directory head mode = new_node head (16384 + mode % 4096) 0

abbrev pub new_link : Head → New
new_link head = new_node head 41471 0

-- what a request leads to: most are about the node of its head
unfoldable pub doing_of : Kept → Session → Head → Asked → Doing
doing_of kept s head (asked.Init offer) = Says (λ kept. agreed served offer)
doing_of kept s head (asked.Lookup name) = does.looks_up kept s head.node name
doing_of kept s head (asked.Forgotten lookups) = Notes (Forgot head.node.0 lookups ∷ []) [] (Says (λ kept. Nothing))
doing_of kept s head (asked.BatchForget forgets) = Notes (map forgot_by forgets) [] (Says (λ kept. Nothing))
doing_of kept s head (asked.GetAttributes handle) = does.shows_attributes s head.node
doing_of kept s head (asked.SetAttributes changes) = does.sets_attributes kept s head.node changes
doing_of kept s head asked.ReadSymbolicLink = does.reads_link kept s head.node
doing_of kept s head (asked.MakeSymbolicLink name target) = does.makes_link kept s head.node name target (new_link head)
doing_of kept s head (asked.MakeNode mode device umask name) = does.makes_node kept s head.node name (new_node head (mode % 65536) device)
doing_of kept s head (asked.MakeDirectory mode umask name) = does.makes_directory kept s head.node name (new_directory head mode)
doing_of kept s head (asked.Unlink name) = does.removes kept s head.node name Unlink
doing_of kept s head (asked.RemoveDirectory name) = does.removes kept s head.node name Rmdir
doing_of kept s head (asked.Rename directory flags old new) = does.renames kept s head.node old directory new flags
doing_of kept s head (asked.Link other name) = does.links kept s head.node other name
doing_of kept s head (asked.Open flags) = does.opens kept s head.node
doing_of kept s head (asked.Read handle offset size) = does.reads kept s head.node offset size
doing_of kept s head (asked.Write handle offset bytes) = does.writes kept s head.node offset bytes
doing_of kept s head asked.Statistics = does.shows_room
doing_of kept s head (asked.Release handle) = does.releases s handle.0
doing_of kept s head (asked.Sync handle data_only) = does.syncs_node s head.node data_only
doing_of kept s head (asked.Flush handle) = never
doing_of kept s head (asked.OpenDirectory flags) = does.opens_directory kept s head.node
doing_of kept s head (asked.ReadDirectory handle offset size) = does.lists kept s head.node offset size
doing_of kept s head (asked.ReadDirectoryPlus handle offset size) = does.lists_plus kept s head.node offset size
doing_of kept s head (asked.ReleaseDirectory handle) = says_done
doing_of kept s head (asked.SyncDirectory handle data_only) = does.syncs_node s head.node data_only
doing_of kept s head (asked.Create flags mode umask name) = does.creates kept s head.node name (new_file head mode)
doing_of kept s head (asked.Interrupt unique) = Says (λ kept. Nothing)
doing_of kept s head asked.Destroy = does.ends kept s
doing_of kept s head asked.SyncVolume = does.syncs_all kept s
doing_of kept s head (asked.Allocate handle offset bytes mode) = does.allocates kept s head.node offset bytes mode
doing_of kept s head (asked.Other opcode) = never

-- the kernel was told and forgot, names and handles came and went, and attributes came before their records and were settled
pub record IsNoted (s s' : Session) : Type 0 where
  pub events : List Event
  pub changes : List Change
  pub session : s' ≡ noted events changes s

-- it is to write all, and to wait for the medium
abbrev pub is_sync : Asked → Bool
is_sync (asked.Sync handle data_only) = true
is_sync (asked.SyncDirectory handle data_only) = true
is_sync asked.SyncVolume = true
is_sync asked.Destroy = true
is_sync _ = false

-- Nothing is ahead of the record of inode i.
abbrev pub IsSettledAt : Session → ℕ → Type 0
IsSettledAt s i = slice_index_or s.ahead i None ≡ None

-- what is settled by a request that is done
abbrev pub Settles : ℕ → Session → Head → Asked → Session → Type 0
Settles count s head (asked.Sync handle false) s' = (i : ℕ) → found s.nodes head.node.0 ≡ Some i → IsSettledAt s' i
Settles count s head (asked.SyncDirectory handle false) s' = (i : ℕ) → found s.nodes head.node.0 ≡ Some i → IsSettledAt s' i
Settles count s head asked.SyncVolume s' = (i : ℕ) → i < count → IsSettledAt s' i
Settles count s head asked.Destroy s' = (i : ℕ) → i < count → IsSettledAt s' i
Settles count s head _ s' = Unit {0}

-- A turn: what its request leads to is done, and the reply is what is said, if there was memory for it. After a sync of which it is said that it was
-- done all is durable.
pub record IsTurn {D T E : Type 0} (head : Head) (asked : Asked) (old : Turn D) (s : Session) (outcome : Result T E) (reply : List ℕ) (new : Turn D) (s' : Session) : Type 0 where
  pub said : Said
  pub comes : Does (doing_of old.volume.kept s head asked) old s said new s'
  pub spells : OnOk outcome (reply ≡ spelled head.unique said)
  pub synced : is_sync asked ≡ true → said ≡ told bodies.Empty → unsynced_of new.volume.queue ≡ []

-- one session becomes the other by turns, whatever was asked for
pub data ByTurns (s : Session) : Session → Type 0 where
  Same : ByTurns s s
  Turned : (u v : Session) (time : Time) → ByTurns s u → IsNoted (at_time time u) v → ByTurns s v
