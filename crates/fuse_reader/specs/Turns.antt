-- One turn: what is said to a request, and what the kernel then knows.
use Rattle.std.specs.Prelude.{ℕ, ◌-◌, ◌/◌, ◌==◌, ◌&&◌, Bool, nat_le, nat_lt, bit_and, if◌then◌else◌, List, [], ◌∷◌, length, map, Option, Some, None}
use Rattle.fuse_wire.specs.declared.bodies.Body.TheVariants as bodies
use Rattle.fuse_wire.specs.declared.errors.Errno.TheVariants as errors
use Rattle.fuse_wire.specs.declared.numbers.NodeId.{NodeId}
use Rattle.fuse_wire.specs.declared.requests.Forget.{Forget}
use Rattle.fuse_wire.specs.declared.requests.Offer.{Offer}
use Rattle.fuse_wire.specs.Requests as asked
use Rattle.fuse_wire.specs.Requests.{Asked}
use Rattle.machine.specs.Paths.{lookup}
use Rattle.model.specs.Layout.{Geometry, inode_count, root}
use Rattle.model.specs.Uses.{is_directory_at}
use Rattle.model.specs.View.{View}
use Rattle.fuse_nodes.specs.Known.{named}
use Rattle.fuse_nodes.specs.Runs.{after_all}
use Rattle.fuse_nodes.specs.Table.{Event, Forgot, Table, Told, found}
use Rattle.fuse_reader.specs.declared.owner.Owner.{Owner}
use Rattle.fuse_reader.specs.Listings.{listing_from}
use Rattle.fuse_reader.specs.Pieces.{lacks_block, piece_blocks, piece_end, piece_of}
use Rattle.fuse_reader.specs.Said.{Said, Nothing, Refused, told}
use Rattle.fuse_reader.specs.Said as said
use Rattle.fuse_reader.specs.Shown.{attributes_of, entry_of, kept_time, kind_at, room_of}

-- A request on a node acts on the inode that the kernel was told of by this node, or is refused.
abbrev pub on_inode : (ℕ → Said) → Option ℕ → Said
on_inode f None = Refused errors.Stale
on_inode f (Some i) = f i

abbrev pub on_node : Table → NodeId → (ℕ → Said) → Said
on_node t node f = on_inode f (found t node.0)

-- ---- each request

-- where an image is read alone: reads side by side (bit 0), writes of more than 4 KiB (bit 5), calls in one directory side by side (bit 18), and requests
-- of up to 256 pages (bit 22)
abbrev pub taken : ℕ
taken = 4456481

-- Version 7.31, and this of what the kernel offers. An older kernel is refused.
abbrev pub agreed : ℕ → Offer → Said
agreed flags offer =
    if offer.major == 7 && nat_le 31 offer.minor
    then told (bodies.Agreement (record {
      major = 7;
      minor = 31;
      readahead = offer.readahead;
      flags = bit_and offer.flags flags;
      background = 12;
      congestion = 9;
      most_written = 131072;
      time_step = 1;
      pages = 256;
    }))
    else Refused errors.NotSupported

-- a number that a name may lead to: one of the volume, and not the root's, to which no name of a sound image leads
abbrev pub is_below_root : Geometry → ℕ → Bool
is_below_root geo i = nat_lt root i && nat_lt i (inode_count geo)

abbrev pub entry_said : Geometry → View → Owner → Table → Option ℕ → Said
entry_said geo view owner t None = told (bodies.Absent kept_time)
entry_said geo view owner t (Some i) = if is_below_root geo i then told (bodies.Entry (entry_of geo view owner t i)) else Refused errors.Device

-- what a name in directory d leads to
abbrev pub looked_up : Geometry → View → Owner → Table → List ℕ → ℕ → Said
looked_up geo view owner t name d =
    if is_directory_at geo view d
    then (if nat_le (length name) 56 then entry_said geo view owner t (lookup geo view d name) else Refused errors.NameTooLong)
    else Refused errors.NotDirectory

abbrev pub attributes_said : Geometry → View → Owner → ℕ → Said
attributes_said geo view owner i = told (bodies.Attributes kept_time (attributes_of geo view owner i))

-- A file is opened to be read, and the kernel keeps what it has of its contents; a directory, and the kernel keeps its listing.
abbrev pub opened_said : Geometry → View → ℕ → ℕ → Said
opened_said geo view flags i =
    if is_directory_at geo view i then Refused errors.IsDirectory
    else (if bit_and flags 3 == 0 then told (bodies.Opened (record { handle = record { 0 = 0 }; flags = 2 })) else Refused errors.ReadOnly)

abbrev pub directory_opened : Geometry → View → ℕ → Said
directory_opened geo view i =
    if is_directory_at geo view i then told (bodies.Opened (record { handle = record { 0 = 0 }; flags = 10 })) else Refused errors.NotDirectory

-- what is said to who asks for so many bytes at most: no more than a request may have pages
abbrev pub sized : ℕ → Said → Said
sized size x = if nat_le size 1048576 then x else Refused errors.Invalid

-- so many bytes of a file from an offset on, which stand in so many blocks; refused where one of them is not there
abbrev pub piece_said : Geometry → View → ℕ → ℕ → ℕ → ℕ → Said
piece_said geo view offset bytes count i =
    if lacks_block geo view i (offset / 1024) count then Refused errors.Device else said.Told (piece_of geo view i offset bytes count)

-- a piece of a file: as many bytes as it has there
abbrev pub read_said : Geometry → View → ℕ → ℕ → ℕ → Said
read_said geo view offset size i =
    if is_directory_at geo view i then Refused errors.IsDirectory
    else piece_said geo view offset (piece_end view i offset size - offset) (piece_blocks view i offset size) i

-- the target of a symbolic link: its bytes, of which Linux takes 4,095
abbrev pub target_said : Geometry → View → ℕ → Said
target_said geo view i = if kind_at geo view i == 10 then read_said geo view 0 4095 i else Refused errors.Invalid

abbrev pub listed_said : Geometry → View → ℕ → ℕ → ℕ → Said
listed_said geo view offset size d =
    if is_directory_at geo view d then said.Told (listing_from geo view d offset size) else Refused errors.NotDirectory

-- ---- the whole

-- What is said to a request on a node. The image is read alone: all that would change it is refused.
unfoldable pub answer : Geometry → View → Owner → Table → NodeId → Asked → Said
answer geo view owner t node (asked.Init offer) = agreed taken offer
answer geo view owner t node (asked.Lookup name) = on_node t node (looked_up geo view owner t name)
answer geo view owner t node (asked.Forgotten lookups) = Nothing
answer geo view owner t node (asked.BatchForget forgets) = Nothing
answer geo view owner t node (asked.GetAttributes handle) = on_node t node (attributes_said geo view owner)
answer geo view owner t node (asked.SetAttributes changes) = Refused errors.ReadOnly
answer geo view owner t node asked.ReadSymbolicLink = on_node t node (target_said geo view)
answer geo view owner t node (asked.MakeSymbolicLink name target) = Refused errors.ReadOnly
answer geo view owner t node (asked.MakeNode mode device umask name) = Refused errors.ReadOnly
answer geo view owner t node (asked.MakeDirectory mode umask name) = Refused errors.ReadOnly
answer geo view owner t node (asked.Unlink name) = Refused errors.ReadOnly
answer geo view owner t node (asked.RemoveDirectory name) = Refused errors.ReadOnly
answer geo view owner t node (asked.Rename directory flags old new) = Refused errors.ReadOnly
answer geo view owner t node (asked.Link other name) = Refused errors.ReadOnly
answer geo view owner t node (asked.Open flags) = on_node t node (opened_said geo view flags)
answer geo view owner t node (asked.Read handle offset size) = on_node t node (λ i. sized size (read_said geo view offset size i))
answer geo view owner t node (asked.Write handle offset bytes) = Refused errors.ReadOnly
answer geo view owner t node asked.Statistics = told (bodies.Statistics (room_of geo view))
answer geo view owner t node (asked.Release handle) = told bodies.Empty
answer geo view owner t node (asked.Sync handle data_only) = told bodies.Empty
answer geo view owner t node (asked.Flush handle) = Refused errors.NotImplemented
answer geo view owner t node (asked.OpenDirectory flags) = on_node t node (directory_opened geo view)
answer geo view owner t node (asked.ReadDirectory handle offset size) = on_node t node (λ d. sized size (listed_said geo view offset size d))
answer geo view owner t node (asked.ReadDirectoryPlus handle offset size) = Refused errors.NotImplemented
answer geo view owner t node (asked.ReleaseDirectory handle) = told bodies.Empty
answer geo view owner t node (asked.SyncDirectory handle data_only) = told bodies.Empty
answer geo view owner t node (asked.Create flags mode umask name) = Refused errors.ReadOnly
answer geo view owner t node (asked.Interrupt unique) = Nothing
answer geo view owner t node asked.Destroy = told bodies.Empty
answer geo view owner t node asked.SyncVolume = told bodies.Empty
answer geo view owner t node (asked.Allocate handle offset bytes mode) = Refused errors.ReadOnly
answer geo view owner t node (asked.Other opcode) = Refused errors.NotImplemented

-- ---- what the kernel then knows

-- it was told of the inode that a name in directory d leads to
abbrev pub told_under : Geometry → ℕ → List ℕ → Option ℕ → List Event
told_under geo d name None = []
told_under geo d name (Some i) = if is_below_root geo i then Told i (named d name) ∷ [] else []

abbrev pub told_of : Geometry → View → List ℕ → Option ℕ → List Event
told_of geo view name None = []
told_of geo view name (Some d) = if is_directory_at geo view d && nat_le (length name) 56 then told_under geo d name (lookup geo view d name) else []

-- and forgot lookups
abbrev pub forgot_by : Forget → Event
forgot_by forget = Forgot forget.node.0 forget.lookups

-- what it is told and forgets by a request on a node
unfoldable pub events_of : Geometry → View → Table → NodeId → Asked → List Event
events_of geo view t node (asked.Lookup name) = told_of geo view name (found t node.0)
events_of geo view t node (asked.Forgotten lookups) = Forgot node.0 lookups ∷ []
events_of geo view t node (asked.BatchForget forgets) = map forgot_by forgets
events_of geo view t node _ = []

abbrev pub known_after : Geometry → View → NodeId → Asked → Table → Table
known_after geo view node asked t = after_all (events_of geo view t node asked) t
