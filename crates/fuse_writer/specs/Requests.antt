-- What each request leads to.
use Rattle.std.specs.Prelude.{ℕ, drop, take, min, ◌/◌, ◌-◌, ◌*◌, ◌+◌, suc, zero, ◌^◌, ◌==◌, ◌&&◌, ◌||◌, not, Bool, nat_le, nat_lt, bit_and, bit_or, if◌then◌else◌, List, [], ◌∷◌, ◌++◌, length, Option, Some, None, option_map, Ok, Err, Result, slice_index_or, replicate}
use Rattle.attributes.specs.Kinds as kinds
use Rattle.attributes.specs.Words.{words_of}
use Rattle.attributes.specs.declared.Attributes.{Attributes as Own}
use Rattle.frozen.specs.Kept.{Kept, frozen_view}
use Rattle.fuse_wire.specs.declared.bodies.Attributes.{Attributes}
use Rattle.fuse_wire.specs.declared.bodies.Body.{Body}
use Rattle.fuse_wire.specs.declared.bodies.Body.TheVariants as bodies
use Rattle.fuse_wire.specs.declared.bodies.Entry.{Entry}
use Rattle.fuse_wire.specs.declared.bodies.Opened.{Opened}
use Rattle.fuse_wire.specs.declared.errors.Errno.{Errno}
use Rattle.fuse_wire.specs.declared.errors.Errno.TheVariants as errors
use Rattle.fuse_wire.specs.declared.numbers.NodeId.{NodeId}
use Rattle.fuse_wire.specs.declared.numbers.Time.{Time}
use Rattle.fuse_wire.specs.declared.requests.Changes.{Changes}
use Rattle.machine.specs.Command as command
use Rattle.machine.specs.Paths.{lookup}
use Rattle.model.specs.Layout.{inode_count}
use Rattle.model.specs.Uses.{blocks_of, is_directory_at}
use Rattle.fuse_nodes.specs.Known.{named, released_by}
use Rattle.fuse_nodes.specs.Table.{Born, Closed, Got, Lost, Opened as WasOpened, Told as WasTold, found, id_of, known, path_of}
use Rattle.fuse_nodes.specs.declared.known.Open.{Open}
use Rattle.fuse_reader.specs.Listings.{listed_name, listing_from, slots_of}
use Rattle.fuse_reader.specs.Pieces.{piece_end}
use Rattle.fuse_wire.specs.Replies.{entry_bytes}
use Rattle.model.specs.Slots.{Slot, Good, slot}
use Rattle.fuse_reader.specs.Said as said
use Rattle.fuse_reader.specs.Said.{told}
use Rattle.fuse_reader.specs.Shown.{room_of, shown_by}
use Rattle.fuse_writer.specs.declared.making.New.{New}
use Rattle.fuse_writer.specs.declared.granted.Rules.{Rules}
use Rattle.fuse_writer.specs.declared.session.Session.{Session}
use Rattle.fuse_writer.specs.Ahead.{attributes_of, has_attributes, marks, notes, settled, touches, with_changes, words_for}
use Rattle.fuse_writer.specs.Doings.{Change, Doing, Says, Asks, IfMemory, Notes, asks_done, asks_number, noted, refuses, says_done, if_done_or, if_settled, with_memory}
use Rattle.fuse_writer.specs.Replied.{bytes_in, number_in}

-- ---- what is shown

abbrev pub hour : Time
hour = record { seconds = 3600; nanoseconds = 0 }

abbrev pub second : Time
second = record { seconds = 1; nanoseconds = 0 }

-- how long the kernel may keep attributes: while repairs may change links for a second alone
abbrev pub kept_for : Session → Time
kept_for s = if s.links_stay then hour else second

abbrev pub shown_of : Kept → Session → ℕ → Attributes
shown_of kept s i = shown_by kept.geometry (frozen_view kept) i (attributes_of kept s i)

-- what a name leads to that leads to inode i
abbrev pub entry_of : Kept → Session → ℕ → Entry
entry_of kept s i = record { node = record { 0 = id_of s.nodes i }; generation = 0; name_kept = hour; attributes_kept = kept_for s; attributes = shown_of kept s i }

-- ---- nodes, names and paths

-- A request on a node acts on the inode that the kernel was told of by this node, or is refused.
abbrev pub on_inode : Option ℕ → (ℕ → Doing) → Doing
on_inode None next = refuses errors.Stale
on_inode (Some i) next = next i

unfoldable pub at_node : Session → NodeId → (ℕ → Doing) → Doing
at_node s node next = on_inode (found s.nodes node.0) next

abbrev pub is_directory : Kept → ℕ → Bool
is_directory kept i = is_directory_at kept.geometry (frozen_view kept) i

unfoldable pub at_directory : Kept → Session → NodeId → (ℕ → Doing) → Doing
at_directory kept s node next = at_node s node (λ d. if is_directory kept d then next d else refuses errors.NotDirectory)

-- what a name in directory d leads to; it has 56 bytes at most
abbrev pub leading : Kept → ℕ → List ℕ → Option ℕ
leading kept d name = lookup kept.geometry (frozen_view kept) d name

unfoldable pub where_leads : Kept → ℕ → List ℕ → (Option ℕ → Doing) → Doing
where_leads kept d name next = if nat_le (length name) 56 then next (leading kept d name) else refuses errors.NameTooLong

abbrev pub if_there : (ℕ → Doing) → Option ℕ → Doing
if_there next None = refuses errors.NotFound
if_there next (Some i) = next i

unfoldable pub at_name : Kept → ℕ → List ℕ → (ℕ → Doing) → Doing
at_name kept d name next = where_leads kept d name (if_there next)

-- A path has 4,096 bytes at most, and needs memory; without one, by the names that the kernel was told, the node is stale.
abbrev pub on_path : Option (List ℕ) → (List ℕ → Doing) → Doing
on_path None next = refuses errors.Stale
on_path (Some path) next = if nat_le (length path) 4096 then next path else refuses errors.NameTooLong

unfoldable pub at_path : Session → ℕ → (List ℕ → Doing) → Doing
at_path s i next = with_memory (on_path (path_of 2048 s.nodes i) next)

-- the path of a name in directory d
unfoldable pub path_in : Session → ℕ → List ℕ → (List ℕ → Doing) → Doing
path_in s d name next =
    if nat_le (length name) 56 then with_memory (on_path (option_map (λ path. path ++ 47 ∷ name) (path_of 2048 s.nodes d)) next) else refuses errors.NameTooLong

-- a number that a name may lead to: one of the volume, and not the root's
abbrev pub is_below_root : Session → ℕ → Bool
is_below_root s i = nat_lt 2 i && nat_lt i (length s.nodes)

-- The kernel is told of the inode to which a name in directory d leads. The name is kept, so memory is needed for it; that there is none is said too where
-- no number of a node is left.
unfoldable pub tells : Session → ℕ → List ℕ → ℕ → (Entry → Body) → Doing
tells s d name i body =
    if is_below_root s i then with_memory (Notes (WasTold i (named d name) ∷ []) [] (Says (λ kept. told (body (entry_of kept s i))))) else refuses errors.Device

-- ---- what is looked at

abbrev pub found_there : Session → ℕ → List ℕ → Option ℕ → Doing
found_there s d name None = Says (λ kept. told (bodies.Absent hour))
found_there s d name (Some i) = tells s d name i bodies.Entry

abbrev pub looks_up : Kept → Session → NodeId → List ℕ → Doing
looks_up kept s node name = at_directory kept s node (λ d. where_leads kept d name (found_there s d name))

abbrev pub says_shown : ℕ → Session → Doing
says_shown i s = Says (λ kept. told (bodies.Attributes (kept_for s) (shown_of kept s i)))

abbrev pub shows_attributes : Session → NodeId → Doing
shows_attributes s node = at_node s node (λ i. says_shown i s)

-- a listing has as many bytes as a request may have pages, at most
abbrev pub lists : Kept → Session → NodeId → ℕ → ℕ → Doing
lists kept s node from size =
    at_directory kept s node (λ d.
    if nat_le size 1048576 then with_memory (Says (λ kept. said.Told (listing_from kept.geometry (frozen_view kept) d from size))) else refuses errors.Invalid)

-- ---- listings that tell what names lead to

-- The kernel may be told of the inode of a name in slot n, but of those of the dots, which stand in the first two slots.
abbrev pub may_tell : Session → ℕ → ℕ → Bool
may_tell s n i = nat_le 2 n && is_below_root s i

-- what a name leads to of which the kernel is not told: it asks for it if it has to
abbrev pub not_told : List ℕ
not_told = replicate 128 0

-- what is told of it, or not
abbrev pub found_or_not : Option Entry → List ℕ
found_or_not None = not_told
found_or_not (Some entry) = entry_bytes entry

-- it goes on if there was room, and ends if not
abbrev pub if_room : Bool → Session → List ℕ → (Session → List ℕ → Doing) → Doing
if_room goes_on s bytes next = if goes_on then next s bytes else Says (λ k. said.Told bytes)

-- an entry is added behind what is listed so far
abbrev pub adds : Session → List ℕ → List ℕ → List ℕ → (Session → List ℕ → Doing) → Doing
adds s bytes found entry next = with_memory (next s (bytes ++ (found ++ entry)))

-- The name of inode i in slot n of directory d: the kernel is told of it, if it may be, and there is memory for it.
abbrev pub adds_name : Kept → Session → ℕ → ℕ → ℕ → List ℕ → List ℕ → List ℕ → (Session → List ℕ → Doing) → Doing
adds_name kept s d n i name bytes entry next =
    if may_tell s n i
    then IfMemory (Notes (WasTold i (named d name) ∷ []) [] (adds (noted (WasTold i (named d name) ∷ []) [] s) bytes (entry_bytes (entry_of kept s i)) entry next))
    (adds s bytes not_told entry next)
    else adds s bytes not_told entry next

-- The name in slot n of directory d, if one stands there, and there is room for it.
abbrev pub adds_slot : Kept → Session → ℕ → ℕ → ℕ → Slot → List ℕ → (Session → List ℕ → Doing) → Doing
adds_slot kept s d room n (Good i name) bytes next =
    let entry = listed_name kept.geometry (frozen_view kept) n i name in
    if nat_le (length bytes + (128 + length entry)) room then adds_name kept s d n i name bytes entry next else Says (λ k. said.Told bytes)
adds_slot kept s d room n _ bytes next = next s bytes

-- The names in so many slots from slot n on: none is left out before the first for which there is no room.
unfoldable pub adds_slots : Kept → Session → ℕ → ℕ → ℕ → ℕ → List ℕ → Doing
adds_slots kept s d room n zero bytes = Says (λ k. said.Told bytes)
adds_slots kept s d room n (suc m) bytes =
    adds_slot kept s d room n (slot kept.geometry (frozen_view kept) d n) bytes (λ t more. adds_slots kept t d room (n + 1) m more)

abbrev pub lists_plus : Kept → Session → NodeId → ℕ → ℕ → Doing
lists_plus kept s node from size =
    at_directory kept s node (λ d.
    if nat_le size 1048576 then adds_slots kept s d size from (slots_of (frozen_view kept) d - from) [] else refuses errors.Invalid)

abbrev pub shows_room : Doing
shows_room = Says (λ kept. told (bodies.Statistics (room_of kept.geometry (frozen_view kept))))

-- ---- names

-- what is noted where a number was given to a new inode of directory d
abbrev pub births : Kept → Session → ℕ → ℕ → List Change
births kept s d i = record { number = i; ahead = None } ∷ touches kept s d

abbrev pub bears : Kept → Session → ℕ → ℕ → Doing → Doing
bears kept s d i next = Notes (Born i ∷ []) (births kept s d i) next

abbrev pub born : Kept → Session → ℕ → ℕ → Session
born kept s d i = noted (Born i ∷ []) (births kept s d i) s

abbrev pub makes : Kept → Session → NodeId → List ℕ → New → (List ℕ → List ℕ → command.Command) → Doing
makes kept s node name new request =
    at_directory kept s node (λ d. path_in s d name (λ path.
    asks_number (request path (words_for kept s d new)) (λ i. bears kept s d i (tells (born kept s d i) d name i bodies.Entry))))

abbrev pub makes_directory : Kept → Session → NodeId → List ℕ → New → Doing
makes_directory kept s node name new = makes kept s node name new command.Mkdir

-- Of nodes a file may be made; where attributes are kept a fifo, a device or a socket too, which are files that say so.
abbrev pub may_make : Rules → ℕ → Bool
may_make rules kind = kind == 8 || (rules.keeps_attributes && ((kind == 1 || kind == 2) || (kind == 6 || kind == 12)))

abbrev pub makes_node : Kept → Session → NodeId → List ℕ → New → Doing
makes_node kept s node name new = if may_make s.rules (new.mode / 4096) then makes kept s node name new command.Create else refuses errors.NotPermitted

-- a file is open by the handle that is its number, and the kernel keeps what it has of its contents
abbrev pub open_file : ℕ → Opened
open_file i = record { handle = record { 0 = i }; flags = 2 }

abbrev pub opened_by : Session → ℕ → ℕ → Session
opened_by s i handle = noted (WasOpened i handle ∷ []) [] s

-- a new name is taken away again, since what was to be behind it could not be
abbrev pub takes_away : Session → ℕ → List ℕ → Errno → Doing
takes_away s d name error = path_in s d name (λ path. asks_done (command.Unlink path) (refuses error))

-- a new file is opened; if it cannot be, its name is taken away again
abbrev pub if_opened : Session → ℕ → List ℕ → ℕ → Result ℕ Errno → Doing
if_opened s d name i (Ok handle) = Notes (WasOpened i handle ∷ []) [] (tells (opened_by s i handle) d name i (λ entry. bodies.Created entry (open_file i)))
if_opened s d name i (Err error) = takes_away s d name error

unfoldable pub opens_new : Session → ℕ → List ℕ → ℕ → List ℕ → Doing
opens_new s d name i path = Asks (command.Open path) (λ reply. if_opened s d name i (number_in reply))

-- The path is needed twice.
abbrev pub creates : Kept → Session → NodeId → List ℕ → New → Doing
creates kept s node name new =
    at_directory kept s node (λ d. path_in s d name (λ path. with_memory (
    asks_number (command.Create path (words_for kept s d new)) (λ i. bears kept s d i (opens_new (born kept s d i) d name i path)))))

-- a name goes: the directory is touched, and the inode marked, if it is still there
abbrev pub loses : Kept → Session → ℕ → ℕ → List ℕ → Doing → Doing
loses kept s i d name next = Notes (Lost i (named d name) ∷ []) (touches kept s d ++ marks kept s i) next

abbrev pub removes : Kept → Session → NodeId → List ℕ → (List ℕ → command.Command) → Doing
removes kept s node name request =
    at_directory kept s node (λ d. at_name kept d name (λ i. path_in s d name (λ path. asks_done (request path) (loses kept s i d name says_done))))

-- what is noted where inode i gets a name in directory d
abbrev pub gains : Kept → Session → ℕ → ℕ → List Change
gains kept s i d = touches kept s d ++ marks kept s i

unfoldable pub links_at : Kept → Session → ℕ → List ℕ → ℕ → Doing
links_at kept s d name i =
    at_path s i (λ own. path_in s d name (λ path.
    asks_done (command.Link own path) (Notes [] (gains kept s i d) (tells (noted [] (gains kept s i d) s) d name i bodies.Entry))))

abbrev pub links : Kept → Session → NodeId → NodeId → List ℕ → Doing
links kept s node file name =
    at_directory kept s node (λ d. at_node s file (λ i.
    if is_directory kept i then refuses errors.NotPermitted else links_at kept s d name i))

-- ---- names that become others

-- A directory moves to no other directory: programs copy it then.
abbrev pub crosses : Bool → ℕ → ℕ → Bool
crosses directory d e = directory && not (d == e)

-- what is noted where inode i moves from directory d to directory e
abbrev pub moved : Kept → Session → ℕ → ℕ → ℕ → List Change
moved kept s i d e = touches kept s d ++ (touches kept s e ++ marks kept s i)

-- A name moves to where none stands, and this is noted. The new one is kept, so memory is needed for it.
unfoldable pub moves : Session → List Change → Bool → ℕ → ℕ → List ℕ → ℕ → List ℕ → Doing
moves s changes directory i d old e new =
    if crosses directory d e then refuses errors.CrossDevice
    else path_in s d old (λ from. path_in s e new (λ to.
    asks_done (command.Rename from to) (Notes (Lost i (named d old) ∷ []) changes (with_memory (Notes (Got i (named e new) ∷ []) [] says_done)))))

abbrev pub removes_as : Bool → List ℕ → command.Command
removes_as directory path = if directory then command.Rmdir path else command.Unlink path

-- a file takes the name of a file, a directory that of a directory
abbrev pub if_fits : Bool → Bool → ℕ → ℕ → Doing → Doing
if_fits directory other d e next =
    if other && not directory then refuses errors.IsDirectory
    else (if directory && not other then refuses errors.NotDirectory
    else (if crosses directory d e then refuses errors.CrossDevice else next))

-- Inode j has the new name, and loses it.
unfoldable pub replaces : Kept → Session → List Change → Bool → Bool → ℕ → ℕ → List ℕ → ℕ → ℕ → List ℕ → Doing
replaces kept s changes directory other i d old j e new =
    if_fits directory other d e (path_in s e new (λ path. asks_done (removes_as directory path)
    (Notes (Lost j (named e new) ∷ []) (marks kept s j) (moves (noted (Lost j (named e new) ∷ []) (marks kept s j) s) changes directory i d old e new))))

-- where the new name leads to now: a rename that spares, or a volume of which names are not to be replaced, refuses one that is there
unfoldable pub renames_to : Kept → Session → Bool → Bool → ℕ → ℕ → List ℕ → ℕ → List ℕ → Option ℕ → Doing
renames_to kept s spares directory i d old e new None = moves s (moved kept s i d e) directory i d old e new
renames_to kept s spares directory i d old e new (Some j) =
    if j == i then says_done
    else (if spares || not s.rules.replaces then refuses errors.Exists else replaces kept s (moved kept s i d e) directory (is_directory kept j) i d old j e new)

unfoldable pub renames_at : Kept → Session → Bool → ℕ → List ℕ → ℕ → List ℕ → Doing
renames_at kept s spares d old e new =
    at_name kept d old (λ i. where_leads kept e new (renames_to kept s spares (is_directory kept i) i d old e new))

-- of the flags the first alone is known: the rename spares the inode that has the new name already
abbrev pub renames : Kept → Session → NodeId → List ℕ → NodeId → List ℕ → ℕ → Doing
renames kept s node old target new flags =
    if bit_and flags 4294967294 == 0
    then at_directory kept s node (λ d. at_directory kept s target (λ e. renames_at kept s (not (bit_and flags 1 == 0)) d old e new))
    else refuses errors.Invalid

-- ---- files that are open

abbrev pub says_opened : ℕ → Doing
says_opened i = Says (λ kept. told (bodies.Opened (open_file i)))

-- Each is open by one handle of the volume, however often it is opened.
abbrev pub opens_known : Session → ℕ → Option Open → Doing
opens_known s i (Some known) = Notes (WasOpened i known.handle ∷ []) [] (says_opened i)
opens_known s i None = at_path s i (λ path. asks_number (command.Open path) (λ handle. Notes (WasOpened i handle ∷ []) [] (says_opened i)))

abbrev pub opens : Kept → Session → NodeId → Doing
opens kept s node = at_node s node (λ i. if is_directory kept i then refuses errors.IsDirectory else opens_known s i (known s.nodes i).open_by)

-- The last who opened it closes it.
abbrev pub closes_by : Option ℕ → Doing → (Errno → Doing) → Doing
closes_by None next refused = next
closes_by (Some handle) next refused = Asks (command.Close handle) (λ reply. if_done_or reply next refused)

abbrev pub closes : Session → ℕ → Doing → (Errno → Doing) → Doing
closes s i next refused = Notes (Closed i ∷ []) [] (closes_by (released_by (known s.nodes i).open_by) next refused)

abbrev pub closed : Session → ℕ → Session
closed s i = noted (Closed i ∷ []) [] s

abbrev pub releases : Session → ℕ → Doing
releases s handle = if nat_lt handle (2 ^ 32) then closes s handle says_done refuses else refuses errors.Stale

-- a directory is opened to be listed: the kernel keeps no listing, since names change
abbrev pub opens_directory : Kept → Session → NodeId → Doing
opens_directory kept s node = at_directory kept s node (λ d. Says (λ kept. told (bodies.Opened (record { handle = record { 0 = 0 }; flags = 0 }))))

-- The last handle of the volume by which it is open; stale where it is not.
abbrev pub on_handle : Option Open → (ℕ → Doing) → Doing
on_handle None next = refuses errors.Stale
on_handle (Some known) next = next known.handle

unfoldable pub at_handle : Session → ℕ → (ℕ → Doing) → Doing
at_handle s i next = on_handle (known s.nodes i).open_by next

-- ---- bytes

-- how far into block k a place of a file lies: at its start if it lies before, at its end if behind
abbrev pub place_in : ℕ → ℕ → ℕ
place_in k at = min (at - k * 1024) 1024

-- what of block k lies between two places
abbrev pub part_of : ℕ → ℕ → ℕ → List ℕ → List ℕ
part_of k from to block = take (place_in k to - place_in k from) (drop (place_in k from) block)

abbrev pub if_block : Result (List ℕ) Errno → (List ℕ → Doing) → (Errno → Doing) → Doing
if_block (Ok block) next refused = next block
if_block (Err error) next refused = refused error

-- So many blocks are read from block k on, and what of them lies between two places is added to the bytes.
unfoldable pub reads_blocks : ℕ → ℕ → ℕ → ℕ → ℕ → List ℕ → (List ℕ → Doing) → (Errno → Doing) → Doing
reads_blocks handle from to k zero bytes next refused = next bytes
reads_blocks handle from to k (suc n) bytes next refused =
    Asks (command.Read handle k) (λ reply. if_block (bytes_in reply)
    (λ block. IfMemory (reads_blocks handle from to (k + 1) n (bytes ++ part_of k from to block) next refused) (refused errors.NoMemory)) refused)

-- the bytes between two places, by the blocks that they stand in
abbrev pub reads_between : ℕ → ℕ → ℕ → (List ℕ → Doing) → (Errno → Doing) → Doing
reads_between handle from to next refused = reads_blocks handle from to (from / 1024) (blocks_of to - from / 1024) [] next refused

abbrev pub says_bytes : List ℕ → Doing
says_bytes bytes = Says (λ kept. said.Told bytes)

-- as many as the file has there; none is asked for where it ends before
abbrev pub reads_piece : ℕ → ℕ → ℕ → Doing
reads_piece handle from to = if nat_lt from to then reads_between handle from to says_bytes refuses else says_bytes []

abbrev pub reads : Kept → Session → NodeId → ℕ → ℕ → Doing
reads kept s node offset size =
    at_node s node (λ i. if nat_le size 1048576
    then at_handle s i (λ handle. reads_piece handle offset (piece_end (frozen_view kept) i offset size)) else refuses errors.Invalid)

-- a piece is written to the start of block k, if there is memory for it
unfoldable pub writes_piece : ℕ → ℕ → List ℕ → Doing → (Errno → Doing) → Doing
writes_piece handle k piece done refused =
    IfMemory (Asks (command.Write handle k piece) (λ reply. if_done_or reply done refused)) (refused errors.NoMemory)

-- what a block has before a place, with zeroes up to it
abbrev pub filled : ℕ → List ℕ → List ℕ
filled at block = take at block ++ replicate (at - length block) 0

-- Bytes are written into block k from a place of it on: what stands before is read, and written with them.
unfoldable pub writes_part : ℕ → ℕ → ℕ → List ℕ → Doing → (Errno → Doing) → Doing
writes_part handle k at bytes done refused =
    if at == 0 then writes_piece handle k bytes done refused
    else Asks (command.Read handle k) (λ reply. if_block (bytes_in reply) (λ block. writes_piece handle k (filled at block ++ bytes) done refused) refused)

-- the bytes of a block that lie between two places
abbrev pub count_in : ℕ → ℕ → ℕ → ℕ
count_in k from to = place_in k to - place_in k from

-- So many blocks from block k on are filled by zeroes between two places.
unfoldable pub fills_blocks : ℕ → ℕ → ℕ → ℕ → ℕ → Doing → (Errno → Doing) → Doing
fills_blocks handle from to k zero next refused = next
fills_blocks handle from to k (suc n) next refused =
    writes_part handle k (place_in k from) (replicate (count_in k from to) 0) (fills_blocks handle from to (k + 1) n next refused) refused

-- A file of this size is lengthened by zeroes to another one, if it is shorter and that is allowed.
abbrev pub fills_to : Rules → ℕ → ℕ → ℕ → Doing → (Errno → Doing) → Doing
fills_to rules handle own size next refused =
    if nat_le size own then next
    else (if rules.fills then fills_blocks handle own size (own / 1024) (blocks_of size - own / 1024) next refused else refused errors.Invalid)

-- where a block is refused: how many bytes were written, if there are any
abbrev pub wrote : ℕ → Errno → Doing
wrote done error = if done == 0 then refuses error else Says (λ kept. told (bodies.Written done))

-- So many blocks from block k on get what is left of the bytes.
unfoldable pub writes_blocks : ℕ → ℕ → ℕ → ℕ → ℕ → List ℕ → ℕ → Doing
writes_blocks handle from to k zero rest done = Says (λ kept. told (bodies.Written done))
writes_blocks handle from to k (suc n) rest done =
    let count = min (count_in k from to) (length rest) in
    writes_part handle k (place_in k from) (take count rest) (writes_blocks handle from to (k + 1) n (drop count rest) (done + count)) (wrote done)

abbrev pub writes_between : ℕ → ℕ → ℕ → List ℕ → Doing
writes_between handle from to bytes = writes_blocks handle from to (from / 1024) (blocks_of to - from / 1024) bytes 0

-- Bytes are written into an open file at an offset. Zeroes are written before where it ends before. The file is touched even if no block is written in the end.
abbrev pub writes_at : Kept → Session → ℕ → ℕ → List ℕ → ℕ → Doing
writes_at kept s i offset bytes handle =
    if nat_lt (offset + length bytes) (2 ^ 32)
    then Notes [] (touches kept s i) (fills_to s.rules handle ((frozen_view kept).inode i).size offset (writes_between handle offset (offset + length bytes) bytes) refuses)
    else refuses errors.TooBig

abbrev pub writes : Kept → Session → NodeId → ℕ → List ℕ → Doing
writes kept s node offset bytes = at_node s node (λ i. at_handle s i (writes_at kept s i offset bytes))

-- A file of this size is lengthened by zeroes to another one; where one of them is refused, it gets its size back.
unfoldable pub lengthens : Rules → ℕ → ℕ → ℕ → Doing → Doing
lengthens rules handle own size next =
    fills_to rules handle own size next (λ error. Asks (command.Truncate handle own) (λ reply. refuses error))

-- An open file has room up to a place: its blocks are there up to its end, so it gets zeroes behind it.
abbrev pub allocates_to : Kept → Session → ℕ → ℕ → ℕ → Doing
allocates_to kept s i end handle =
    let own = ((frozen_view kept).inode i).size in
    if nat_lt end (2 ^ 32)
    then (if nat_le end own then says_done else lengthens s.rules handle own end (Notes [] (touches kept s i) says_done))
    else refuses errors.TooBig

-- there is no room behind the end of a file, and no hole in it
abbrev pub allocates : Kept → Session → NodeId → ℕ → ℕ → ℕ → Doing
allocates kept s node offset bytes mode =
    if mode == 0 then at_node s node (λ i. at_handle s i (allocates_to kept s i (offset + bytes))) else refuses errors.NotSupported

-- ---- symbolic links

-- what inode i is, as a number
abbrev pub kind_at : Kept → Session → ℕ → ℕ
kind_at kept s i = kinds.kind_of (is_directory kept i) (attributes_of kept s i).mode

-- The file of a link is opened and read, and closed in any case. Linux takes 4,095 bytes.
unfoldable pub reads_target : Kept → Session → ℕ → Doing
reads_target kept s i =
    at_path s i (λ path. asks_number (command.Open path) (λ handle.
    reads_between handle 0 (min ((frozen_view kept).inode i).size 4095) (λ bytes. asks_done (command.Close handle) (says_bytes bytes))
    (λ error. Asks (command.Close handle) (λ reply. refuses error))))

abbrev pub reads_link : Kept → Session → NodeId → Doing
reads_link kept s node = at_node s node (λ i. if kind_at kept s i == 10 then reads_target kept s i else refuses errors.Invalid)

-- So many blocks of an open file from block k on get what is left of the bytes, which begin there.
unfoldable pub puts_blocks : ℕ → ℕ → ℕ → List ℕ → Doing → (Errno → Doing) → Doing
puts_blocks handle k zero rest next refused = next
puts_blocks handle k (suc n) rest next refused = writes_piece handle k (take 1024 rest) (puts_blocks handle (k + 1) n (drop 1024 rest) next refused) refused

-- A new link gets its target as its bytes, and is closed; if it cannot have them, its name is taken away again.
unfoldable pub puts_target : Session → ℕ → List ℕ → ℕ → List ℕ → ℕ → Doing
puts_target s d name i target handle =
    puts_blocks handle 0 (blocks_of (length target)) target
    (Asks (command.Close handle) (λ reply. if_done_or reply (tells s d name i bodies.Entry) (takes_away s d name)))
    (λ error. Asks (command.Close handle) (λ reply. takes_away s d name error))

abbrev pub if_link_opened : Session → ℕ → List ℕ → ℕ → List ℕ → Result ℕ Errno → Doing
if_link_opened s d name i target (Ok handle) = puts_target s d name i target handle
if_link_opened s d name i target (Err error) = takes_away s d name error

unfoldable pub opens_link : Session → ℕ → List ℕ → ℕ → List ℕ → List ℕ → Doing
opens_link s d name i target path = Asks (command.Open path) (λ reply. if_link_opened s d name i target (number_in reply))

-- a target has 1 to 4,095 bytes
abbrev pub if_target : List ℕ → Doing → Doing
if_target target next = if length target == 0 then refuses errors.Invalid else (if nat_le (length target) 4095 then next else refuses errors.NameTooLong)

abbrev pub makes_link : Kept → Session → NodeId → List ℕ → List ℕ → New → Doing
makes_link kept s node name target new =
    if s.rules.keeps_attributes
    then if_target target (at_directory kept s node (λ d. path_in s d name (λ path. with_memory (
    asks_number (command.Create path (words_for kept s d new)) (λ i. bears kept s d i (opens_link (born kept s d i) d name i target path))))))
    else refuses errors.NotPermitted

-- ---- the medium

-- All is written, and the medium is waited for.
abbrev pub syncs : Doing
syncs = asks_done command.Sync says_done

-- The record of an inode gets what is ahead of it. An inode that is gone has nothing to get.
abbrev pub settles_by : Session → ℕ → Option Own → (Session → Doing) → (Errno → Doing) → Doing
settles_by s i None next refused = next s
settles_by s i (Some own) next refused =
    Asks (command.SetAttributes i (words_of own)) (λ reply. if_settled reply (Notes [] (settled i) (next (noted [] (settled i) s))) refused)

unfoldable pub settles : Session → ℕ → (Session → Doing) → (Errno → Doing) → Doing
settles s i next refused = settles_by s i (slice_index_or s.ahead i None) next refused

-- and so do those of so many numbers from k on, up to the first refusal
unfoldable pub settles_all : Session → ℕ → ℕ → (Session → Doing) → (Session → Errno → Doing) → Doing
settles_all s k zero next refused = next s
settles_all s k (suc n) next refused = settles s k (λ t. settles_all t (k + 1) n next refused) (refused s)

-- A file or a directory is settled before, unless its data alone are meant.
abbrev pub settles_found : Session → Option ℕ → Doing
settles_found s None = syncs
settles_found s (Some i) = settles s i (λ t. syncs) refuses

abbrev pub syncs_node : Session → NodeId → Bool → Doing
syncs_node s node data_only = if data_only then syncs else settles_found s (found s.nodes node.0)

abbrev pub syncs_all : Kept → Session → Doing
syncs_all kept s = settles_all s 0 (inode_count kept.geometry) (λ t. syncs) (λ t. refuses)

-- so many numbers from one on are settled between two turns
abbrev pub settles_some : Session → ℕ → ℕ → Doing
settles_some s from count = settles_all s from count (λ t. says_done) (λ t. refuses)

-- ---- attributes that are set

-- an open file of this size is cut short, or lengthened by zeroes
unfoldable pub resizes : Rules → ℕ → ℕ → ℕ → Doing → (Errno → Doing) → Doing
resizes rules handle own size done refused =
    if nat_lt size own then Asks (command.Truncate handle size) (λ reply. if_done_or reply done refused)
    else fills_to rules handle own size done refused

-- A file that is not open is opened for it, and closed, whether it was done or not. The first refusal is told.
unfoldable pub resizes_by_path : Session → ℕ → ℕ → ℕ → Doing → Doing
resizes_by_path s i own size next =
    at_path s i (λ path. asks_number (command.Open path) (λ handle.
    resizes s.rules handle own size (asks_done (command.Close handle) next) (λ error. Asks (command.Close handle) (λ reply. refuses error))))

abbrev pub resizes_known : Session → ℕ → ℕ → ℕ → Option Open → Doing → Doing
resizes_known s i own size None next = resizes_by_path s i own size next
resizes_known s i own size (Some known) next = resizes s.rules known.handle own size next refuses

-- a size that is to be set: that of a file, and one of 32 bits
unfoldable pub sets_size : Kept → Session → ℕ → Option ℕ → Doing → Doing
sets_size kept s i None next = next
sets_size kept s i (Some size) next =
    if is_directory kept i then refuses errors.IsDirectory
    else (if nat_lt size (2 ^ 32) then resizes_known s i ((frozen_view kept).inode i).size size (known s.nodes i).open_by next else refuses errors.TooBig)

-- The inode has these attributes from now on, if they are kept: its record gets them, or, where the size alone was set, will get them.
unfoldable pub keeps : Session → ℕ → Changes → Own → (Session → Doing) → Doing
keeps s i changes own next =
    if not s.rules.keeps_attributes then next s
    else (if has_attributes changes
    then asks_done (command.SetAttributes i (words_of own)) (Notes [] (settled i) (next (noted [] (settled i) s)))
    else Notes [] (notes s i own) (next (noted [] (notes s i own) s)))

-- They are those that it had before its size was set, with the changes.
abbrev pub sets_attributes : Kept → Session → NodeId → Changes → Doing
sets_attributes kept s node changes =
    at_node s node (λ i.
    if has_attributes changes && not s.rules.keeps_attributes then refuses errors.NotPermitted
    else sets_size kept s i changes.size (keeps s i changes (with_changes s.time changes (attributes_of kept s i)) (says_shown i)))

-- ---- the unmount

-- so many of those who opened a file are done
unfoldable pub closes_often : Session → ℕ → ℕ → (Session → Doing) → (Errno → Doing) → Doing
closes_often s i zero next refused = next s
closes_often s i (suc n) next refused = closes s i (closes_often (closed s i) i n next refused) refused

-- how many of them are not done
abbrev pub opened_often : Option Open → ℕ
opened_often None = 0
opened_often (Some known) = known.count

-- the files of so many numbers from k on are closed, each as often as it is open
unfoldable pub closes_all : Session → ℕ → ℕ → Doing → (Errno → Doing) → Doing
closes_all s k zero next refused = next
closes_all s k (suc n) next refused = closes_often s k (opened_often (known s.nodes k).open_by) (λ t. closes_all t (k + 1) n next refused) refused

-- the first refusal is told, but all is written in any case
abbrev pub syncs_still : Errno → Doing
syncs_still error = Asks command.Sync (λ reply. refuses error)

-- All is settled and all files are closed, each as far as that is not refused, and all is written in any case. The first refusal is told.
abbrev pub ends : Kept → Session → Doing
ends kept s =
    let all = inode_count kept.geometry in
    settles_all s 0 all (λ t. closes_all t 0 all syncs syncs_still) (λ t error. closes_all t 0 all (syncs_still error) (λ later. syncs_still error))
