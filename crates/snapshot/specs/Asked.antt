-- What a command asks of the machine, and which answers stand for which of the machine's.
use Rattle.std.specs.Prelude.{◌≡◌, Bool, true, false, ◌&&◌, ◌==◌, List, [], Ok, Err, Result, map, if◌then◌else◌}
use Rattle.std.specs.Arc.{arc_value}
use Rattle.std.specs.List.{AllZip}
use Rattle.layout.specs.declared.refusal.Refusal.{Refusal}
use Rattle.model.specs.Layout.{Geometry}
use Rattle.model.specs.View.{View, free_inode}
use Rattle.frozen.specs.Kept.{frozen_view}
use Rattle.fsck.specs.Checked.{CheckedImage}
use Rattle.machine.specs.Command.{Check, Command as Request, Reply as Response, Create as AsksCreate, Mkdir as AsksMkdir, Link as AsksLink, Unlink as AsksUnlink, Rmdir as AsksRmdir, Rename as AsksRename, Open as AsksOpen, Close as AsksClose, Read as AsksRead, Write as AsksWrite, Truncate as AsksTruncate, ListNames, Stat as AsksStat, Freeze as AsksFreeze, SnapRead as AsksSnapRead, Release as AsksRelease, Install as AsksInstall, RepairAt, Flush as AsksFlush, Sync as AsksSync, SetAttributes as AsksSetAttributes, ReadAttributes as AsksReadAttributes}
use Rattle.machine.specs.Command.{Answer as Answered, Done as IsDone, Number as IsNumber, Bytes as AreBytes, Listed, Status as IsStatus, Attributes as AreAttributes, Image as IsImage}
use Rattle.metadata.specs.Shown.{Shows}
use Rattle.live_paths.specs.Listed.{name_of}
pub use Rattle.live.specs.Kinds.{mode_of}
use Rattle.snapshot.specs.declared.command.Command.{Command}
use Rattle.snapshot.specs.declared.command.Command.TheVariants.{Create, Mkdir, Link, Unlink, Rmdir, Rename, Open, Close, Read, Write, Truncate, List as ListOf, Stat, Freeze, SnapRead, Release, Install, Repair, Flush, Sync, SetAttributes, ReadAttributes}
use Rattle.snapshot.specs.declared.answer.Answer.{Answer}
use Rattle.snapshot.specs.declared.answer.Answer.TheVariants.{Done, Number, Bytes, Names, Status, Attributes, Image}

-- what no image has: records without pointers
abbrev pub no_image : View
no_image = record { inode = λ i. record free_inode { direct = [] }; number_marked = λ i. false; block_marked = λ a. false; bytes = λ a. [] }

abbrev pub is_same_geometry : Geometry → Geometry → Bool
is_same_geometry geo other = geo.groups == other.groups && geo.blocks == other.blocks && geo.inodes == other.inodes && geo.version == other.version

-- a check, by what it looked at and what it found; an image of another geometry is none of this volume's
abbrev pub check_of : Geometry → CheckedImage → Check
check_of geo checked = record { image = if is_same_geometry checked.frozen.geometry geo then frozen_view checked.frozen else no_image; findings = checked.findings }

-- a command of users: not one about snapshots, checks and repairs
abbrev pub is_users : Command → Bool
is_users Freeze = false
is_users (SnapRead snapshot inode index) = false
is_users (Release number) = false
is_users (Install checked) = false
is_users (Repair place) = false
is_users _ = true

-- what is asked of a volume of this geometry
abbrev pub asked : Geometry → Command → Request
asked geo (Create path attributes) = AsksCreate path.items attributes
asked geo (Mkdir path attributes) = AsksMkdir path.items attributes
asked geo (Link path other) = AsksLink path.items other.items
asked geo (Unlink path) = AsksUnlink path.items
asked geo (Rmdir path) = AsksRmdir path.items
asked geo (Rename path other) = AsksRename path.items other.items
asked geo (Open path) = AsksOpen path.items
asked geo (Close handle) = AsksClose handle
asked geo (Read handle index) = AsksRead handle index
asked geo (Write handle index piece) = AsksWrite handle index piece.items
asked geo (Truncate handle size) = AsksTruncate handle size
asked geo (SetAttributes inode attributes) = AsksSetAttributes inode attributes
asked geo (ReadAttributes inode) = AsksReadAttributes inode
asked geo (ListOf path) = ListNames path.items
asked geo (Stat path) = AsksStat path.items
asked geo Freeze = AsksFreeze
asked geo (SnapRead snapshot inode index) = AsksSnapRead snapshot inode index
asked geo (Release number) = AsksRelease number
asked geo (Install checked) = AsksInstall (check_of geo (arc_value checked))
asked geo (Repair place) = RepairAt place
asked geo (Flush address) = AsksFlush address
asked geo Sync = AsksSync

-- An answer stands for the machine's; that of a freeze has the snapshot's number and the metadata of its image.
abbrev pub StandsFor : Answer → Answered → Type 0
StandsFor Done answer = answer ≡ IsDone
StandsFor (Number n) answer = answer ≡ IsNumber n
StandsFor (Bytes bytes) answer = answer ≡ AreBytes bytes.items
StandsFor (Names names) answer = answer ≡ Listed (map name_of names.items)
StandsFor (Status status) answer = answer ≡ IsStatus status.number (mode_of status.kind) status.links status.size
StandsFor (Attributes words) answer = answer ≡ AreAttributes words
StandsFor (Image number frozen) (IsImage n view) = (n ≡ number) × Shows (arc_value frozen) view
StandsFor (Image number frozen) _ = ⊥

-- and so does a reply
abbrev pub IsReply : Result Answer Refusal → Response → Type 0
IsReply (Ok answer) (Ok answered) = StandsFor answer answered
IsReply (Err r) (Err s) = s ≡ r
IsReply _ _ = ⊥

-- and so do replies, one by one
abbrev pub AreReplies : List (Result Answer Refusal) → List Response → Type 0
AreReplies replies responses = AllZip IsReply replies responses

-- an answer of bytes, or of names
abbrev pub HasBytesOrNames : Result Answer Refusal → Type 0
HasBytesOrNames (Ok (Bytes bytes)) = Unit {0}
HasBytesOrNames (Ok (Names names)) = Unit {0}
HasBytesOrNames _ = ⊥
