-- Replies as bytes: a head and a body, as Linux's header `linux/fuse.h` has them in version 7.31.
use Rattle.std.specs.Prelude.{ℕ, ◌+◌, ◌-◌, ◌%◌, ◌^◌, ◌<◌, List, [], ◌∷◌, ◌++◌, length, replicate, Option, Some, None, Result, Ok, Err}
use Rattle.std.proofs.Common.{Bor}
use Rattle.fuse_wire.specs.declared.bodies.Agreement.{Agreement}
use Rattle.fuse_wire.specs.declared.bodies.Attributes.{Attributes}
use Rattle.fuse_wire.specs.declared.bodies.Body.{Body}
use Rattle.fuse_wire.specs.declared.bodies.Body.TheVariants as bodies
use Rattle.fuse_wire.specs.declared.bodies.Entry.{Entry}
use Rattle.fuse_wire.specs.declared.bodies.Opened.{Opened}
use Rattle.fuse_wire.specs.declared.bodies.Statistics.{Statistics}
use Rattle.fuse_wire.specs.declared.entries.DirectoryEntry.{DirectoryEntry}
use Rattle.fuse_wire.specs.declared.entries.Kind.{Kind}
use Rattle.fuse_wire.specs.declared.entries.Kind.TheVariants as kinds
use Rattle.fuse_wire.specs.declared.errors.Errno.{Errno}
use Rattle.fuse_wire.specs.declared.numbers.Time.{Time}
use Rattle.fuse_wire.specs.declared.numbers.Unique.{Unique}
use Rattle.fuse_wire.specs.Fields.{numbers}
use Rattle.fuse_wire.specs.Refusals.{number_of}

-- ---- bodies

-- attributes: 88 bytes. The flags, which stand last, are 0
unfoldable pub attributes_bytes : Attributes → List ℕ
attributes_bytes a =
    numbers 8 (a.inode ∷ a.size ∷ a.blocks ∷ a.accessed.seconds ∷ a.modified.seconds ∷ a.changed.seconds ∷ [])
    ++ numbers 4 (a.accessed.nanoseconds ∷ a.modified.nanoseconds ∷ a.changed.nanoseconds ∷ a.mode ∷ a.links ∷ a.user ∷ a.group ∷ a.device ∷ a.block_bytes ∷ 0 ∷ [])

-- attributes, and how long they may be kept: 104 bytes
unfoldable pub told_bytes : Time → Attributes → List ℕ
told_bytes kept attributes = numbers 8 (kept.seconds ∷ []) ++ numbers 4 (kept.nanoseconds ∷ 0 ∷ []) ++ attributes_bytes attributes

-- what a name leads to: 128 bytes
unfoldable pub entry_bytes : Entry → List ℕ
entry_bytes e =
    numbers 8 (e.node.0 ∷ e.generation ∷ e.name_kept.seconds ∷ e.attributes_kept.seconds ∷ [])
    ++ numbers 4 (e.name_kept.nanoseconds ∷ e.attributes_kept.nanoseconds ∷ [])
    ++ attributes_bytes e.attributes

-- that a name leads nowhere: node 0, with how long that holds
abbrev pub absent_bytes : Time → List ℕ
absent_bytes kept = numbers 8 (0 ∷ 0 ∷ kept.seconds ∷ 0 ∷ []) ++ numbers 4 (kept.nanoseconds ∷ 0 ∷ []) ++ replicate 88 0

-- the answer to the first request: 64 bytes
abbrev pub agreement_bytes : Agreement → List ℕ
agreement_bytes a =
    numbers 4 (a.major ∷ a.minor ∷ a.readahead ∷ a.flags ∷ [])
    ++ numbers 2 (a.background ∷ a.congestion ∷ [])
    ++ numbers 4 (a.most_written ∷ a.time_step ∷ [])
    ++ numbers 2 (a.pages ∷ 0 ∷ [])
    ++ numbers 4 (replicate 8 0)

unfoldable pub opened_bytes : Opened → List ℕ
opened_bytes o = numbers 8 (o.handle.0 ∷ []) ++ numbers 4 (o.flags ∷ 0 ∷ [])

-- the room of a volume: 80 bytes, of which the last 28 are 0
abbrev pub statistics_bytes : Statistics → List ℕ
statistics_bytes s =
    numbers 8 (s.blocks ∷ s.free_blocks ∷ s.available_blocks ∷ s.inodes ∷ s.free_inodes ∷ [])
    ++ numbers 4 (s.block_bytes ∷ s.name_bytes ∷ s.block_bytes ∷ replicate 7 0)

abbrev pub body_bytes : Body → List ℕ
body_bytes bodies.Empty = []
body_bytes (bodies.Agreement agreement) = agreement_bytes agreement
body_bytes (bodies.Entry entry) = entry_bytes entry
body_bytes (bodies.Absent kept) = absent_bytes kept
body_bytes (bodies.Attributes kept attributes) = told_bytes kept attributes
body_bytes (bodies.Opened opened) = opened_bytes opened
body_bytes (bodies.Created entry opened) = entry_bytes entry ++ opened_bytes opened
body_bytes (bodies.Bytes bytes) = bytes.now
body_bytes (bodies.Written bytes) = numbers 4 (bytes ∷ 0 ∷ [])
body_bytes (bodies.Statistics statistics) = statistics_bytes statistics

-- ---- the whole

-- the head of a reply of which the body has so many bytes: the length of the whole, the error, and the number of the request
abbrev pub head_bytes : ℕ → ℕ → Unique → List ℕ
head_bytes bytes error unique = numbers 4 ((16 + bytes) ∷ error ∷ []) ++ numbers 8 (unique.0 ∷ [])

-- a reply: error 0 and a body, or the number of a refusal, below 0 in two's complement
abbrev pub spell_reply : Unique → Result Body Errno → List ℕ
spell_reply unique (Ok body) = head_bytes (length (body_bytes body)) 0 unique ++ body_bytes body
spell_reply unique (Err error) = head_bytes 0 (2 ^ 32 - number_of error) unique

-- its length fits in 32 bits
abbrev pub HasSpelling : Result Body Errno → Type 0
HasSpelling (Ok body) = 16 + length (body_bytes body) < 2 ^ 32
HasSpelling (Err error) = Unit {0}

-- ---- listings

-- the number of a kind, which is what the upper four bits of 16 of a mode say
abbrev pub kind_number : Kind → ℕ
kind_number kinds.Fifo = 1
kind_number kinds.CharacterDevice = 2
kind_number kinds.Directory = 4
kind_number kinds.BlockDevice = 6
kind_number kinds.File = 8
kind_number kinds.SymbolicLink = 10
kind_number kinds.Socket = 12

-- how many zeroes stand behind so many bytes, up to a multiple of 8
abbrev pub padding : ℕ → ℕ
padding n = (8 - n % 8) % 8

-- bytes, and zeroes up to a multiple of 8
abbrev pub padded : List ℕ → List ℕ
padded bytes = bytes ++ replicate (padding (length bytes)) 0

-- what stands before the name of an entry of a listing: its inode, from where the listing goes on, how long the name is, and its kind
unfoldable pub listed_head : ℕ → ℕ → ℕ → ℕ → List ℕ
listed_head inode next bytes kind = numbers 8 (inode ∷ next ∷ []) ++ numbers 4 (bytes ∷ kind ∷ [])

-- an entry of a listing
abbrev pub listed_bytes : DirectoryEntry → List ℕ
listed_bytes e = listed_head e.inode e.next (length e.name.now) (kind_number e.kind) ++ padded e.name.now

-- what the name of an entry leads to; zeroes if that is not told
abbrev pub found_bytes : Option (Bor Entry) → List ℕ
found_bytes (Some entry) = entry_bytes entry.now
found_bytes None = replicate 128 0

-- an entry of a listing that also tells what each name leads to
abbrev pub listed_plus_bytes : Option (Bor Entry) → DirectoryEntry → List ℕ
listed_plus_bytes found entry = found_bytes found ++ listed_bytes entry
