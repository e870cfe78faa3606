-- Requests as bytes: a head, and the fields of each kind, as Linux's header `linux/fuse.h` has them in version 7.31.
use Rattle.std.specs.Prelude.{ℕ, ◌+◌, ◌*◌, ◌==◌, List, length, take, drop, Bool, not, ◌||◌, nat_lt, bit_and, Option, Some, None, if◌then◌else◌, option_map, option_and_then}
use Rattle.fuse_wire.specs.declared.numbers.Handle.{Handle}
use Rattle.fuse_wire.specs.declared.numbers.NodeId.{NodeId}
use Rattle.fuse_wire.specs.declared.numbers.Time.{Time}
use Rattle.fuse_wire.specs.declared.numbers.Unique.{Unique}
use Rattle.fuse_wire.specs.declared.opcodes.Opcode.{Opcode}
use Rattle.fuse_wire.specs.declared.opcodes.Opcode.TheVariants as opcodes
use Rattle.fuse_wire.specs.declared.requests.Changes.{Changes}
use Rattle.fuse_wire.specs.declared.requests.Forget.{Forget}
use Rattle.fuse_wire.specs.declared.requests.Head.{Head}
use Rattle.fuse_wire.specs.declared.requests.Moment.{Moment}
use Rattle.fuse_wire.specs.declared.requests.Moment.TheVariants as moments
use Rattle.fuse_wire.specs.declared.requests.Offer.{Offer}
use Rattle.fuse_wire.specs.declared.requests.Request.{Request}
use Rattle.fuse_wire.specs.declared.requests.Request.TheVariants as requests
use Rattle.fuse_wire.specs.Fields.{long_at, name_at, word_at}
use Rattle.fuse_wire.specs.Forgets.{forgets_in, forgets_of}
use Rattle.fuse_wire.specs.Opcodes.{opcode_of}

-- what is asked for, without where it lies in memory
pub data Asked : Type 0 where
  Init : Offer → Asked
  Lookup : List ℕ → Asked
  Forgotten : ℕ → Asked
  BatchForget : List Forget → Asked
  GetAttributes : Option Handle → Asked
  SetAttributes : Changes → Asked
  ReadSymbolicLink : Asked
  MakeSymbolicLink : List ℕ → List ℕ → Asked
  MakeNode : ℕ → ℕ → ℕ → List ℕ → Asked
  MakeDirectory : ℕ → ℕ → List ℕ → Asked
  Unlink : List ℕ → Asked
  RemoveDirectory : List ℕ → Asked
  Rename : NodeId → ℕ → List ℕ → List ℕ → Asked
  Link : NodeId → List ℕ → Asked
  Open : ℕ → Asked
  Read : Handle → ℕ → ℕ → Asked
  Write : Handle → ℕ → List ℕ → Asked
  Statistics : Asked
  Release : Handle → Asked
  Sync : Handle → Bool → Asked
  Flush : Handle → Asked
  OpenDirectory : ℕ → Asked
  ReadDirectory : Handle → ℕ → ℕ → Asked
  ReadDirectoryPlus : Handle → ℕ → ℕ → Asked
  ReleaseDirectory : Handle → Asked
  SyncDirectory : Handle → Bool → Asked
  Create : ℕ → ℕ → ℕ → List ℕ → Asked
  Interrupt : Unique → Asked
  Destroy : Asked
  SyncVolume : Asked
  Allocate : Handle → ℕ → ℕ → ℕ → Asked
  Other : ℕ → Asked

abbrev pub seen : Request → Asked
seen (requests.Init offer) = Init offer
seen (requests.Lookup name) = Lookup name.now
seen (requests.Forget lookups) = Forgotten lookups
seen (requests.BatchForget forgets) = BatchForget (forgets_of forgets)
seen (requests.GetAttributes handle) = GetAttributes handle
seen (requests.SetAttributes changes) = SetAttributes changes
seen requests.ReadSymbolicLink = ReadSymbolicLink
seen (requests.MakeSymbolicLink name target) = MakeSymbolicLink name.now target.now
seen (requests.MakeNode mode device umask name) = MakeNode mode device umask name.now
seen (requests.MakeDirectory mode umask name) = MakeDirectory mode umask name.now
seen (requests.Unlink name) = Unlink name.now
seen (requests.RemoveDirectory name) = RemoveDirectory name.now
seen (requests.Rename directory flags old new) = Rename directory flags old.now new.now
seen (requests.Link node name) = Link node name.now
seen (requests.Open flags) = Open flags
seen (requests.Read handle offset size) = Read handle offset size
seen (requests.Write handle offset bytes) = Write handle offset bytes.now
seen requests.Statistics = Statistics
seen (requests.Release handle) = Release handle
seen (requests.Sync handle data_only) = Sync handle data_only
seen (requests.Flush handle) = Flush handle
seen (requests.OpenDirectory flags) = OpenDirectory flags
seen (requests.ReadDirectory handle offset size) = ReadDirectory handle offset size
seen (requests.ReadDirectoryPlus handle offset size) = ReadDirectoryPlus handle offset size
seen (requests.ReleaseDirectory handle) = ReleaseDirectory handle
seen (requests.SyncDirectory handle data_only) = SyncDirectory handle data_only
seen (requests.Create flags mode umask name) = Create flags mode umask name.now
seen (requests.Interrupt unique) = Interrupt unique
seen requests.Destroy = Destroy
seen requests.SyncVolume = SyncVolume
seen (requests.Allocate handle offset bytes mode) = Allocate handle offset bytes mode
seen (requests.Other opcode) = Other opcode

-- ---- fields

abbrev pub node_at : ℕ → List ℕ → NodeId
node_at i bytes = record { 0 = long_at i bytes }

abbrev pub handle_at : ℕ → List ℕ → Handle
handle_at i bytes = record { 0 = long_at i bytes }

abbrev pub unique_at : ℕ → List ℕ → Unique
unique_at i bytes = record { 0 = long_at i bytes }

-- what is found, where there are so many bytes
abbrev pub behind : {A : Type 0} → ℕ → List ℕ → Option A → Option A
behind n bytes found = if nat_lt (length bytes) n then None else found

-- a value that is there if this bit of the flags is set
abbrev pub chosen : {A : Type 0} → ℕ → ℕ → A → Option A
chosen flags bit value = if bit_and flags bit == 0 then None else Some value

-- a time that is to be set: the time of the call, or this one
abbrev pub moment : ℕ → ℕ → Time → Moment
moment flags bit time = if bit_and flags bit == 0 then moments.At time else moments.Now

-- the seconds stand at one place, the nanoseconds at another
abbrev pub time_at : ℕ → ℕ → List ℕ → Time
time_at i j bytes = record { seconds = long_at i bytes; nanoseconds = word_at j bytes }

abbrev pub changes_of : List ℕ → Changes
changes_of bytes =
    let flags = word_at 0 bytes in
    record {
      handle = chosen flags 64 (handle_at 8 bytes);
      size = chosen flags 8 (long_at 16 bytes);
      mode = chosen flags 1 (word_at 68 bytes);
      user = chosen flags 2 (word_at 76 bytes);
      group = chosen flags 4 (word_at 80 bytes);
      accessed = chosen flags 16 (moment flags 128 (time_at 32 56 bytes));
      modified = chosen flags 32 (moment flags 256 (time_at 40 60 bytes));
      changed = chosen flags 1024 (time_at 48 64 bytes);
    }

abbrev pub offer_of : List ℕ → Offer
offer_of bytes = record { major = word_at 0 bytes; minor = word_at 4 bytes; readahead = word_at 8 bytes; flags = word_at 12 bytes }

-- a handle, where there are so many bytes
abbrev pub handle_of : ℕ → List ℕ → Option Handle
handle_of n bytes = behind n bytes (Some (handle_at 0 bytes))

-- a handle, a place and a size
abbrev pub piece_of : List ℕ → Option (Handle × ℕ × ℕ)
piece_of bytes = behind 40 bytes (Some (handle_at 0 bytes, long_at 8 bytes, word_at 16 bytes))

-- a handle, and whether the data alone are meant
abbrev pub sync_of : List ℕ → Option (Handle × Bool)
sync_of bytes = behind 16 bytes (Some (handle_at 0 bytes, not (bit_and (word_at 8 bytes) 1 == 0)))

-- a name, and one behind it
abbrev pub name_of : List ℕ → Option (List ℕ)
name_of bytes = option_map (λ x. x.0) (name_at bytes)

abbrev pub names_of : List ℕ → Option (List ℕ × List ℕ)
names_of bytes = option_and_then (λ x. option_map (λ second. (x.0, second)) (name_of x.1)) (name_at bytes)

-- the bytes that are to be written: as many as the fields say
abbrev pub written_of : List ℕ → Option (List ℕ)
written_of bytes = behind (40 + word_at 16 bytes) bytes (Some (take (word_at 16 bytes) (drop 40 bytes)))

-- the nodes that are forgotten: as many as the fields say
abbrev pub forgotten_of : List ℕ → Option (List Forget)
forgotten_of bytes = behind (8 + 16 * word_at 0 bytes) bytes (Some (forgets_in (take (16 * word_at 0 bytes) (drop 8 bytes))))

-- ---- the whole

-- what is asked for by a request of this kind with these bytes behind its head
abbrev pub asked_of : Opcode → List ℕ → Option Asked
asked_of opcodes.Init bytes = behind 16 bytes (Some (Init (offer_of bytes)))
asked_of opcodes.Lookup bytes = option_map Lookup (name_of bytes)
asked_of opcodes.Forget bytes = behind 8 bytes (Some (Forgotten (long_at 0 bytes)))
asked_of opcodes.BatchForget bytes = behind 8 bytes (option_map BatchForget (forgotten_of bytes))
asked_of opcodes.GetAttributes bytes = behind 16 bytes (Some (GetAttributes (chosen (word_at 0 bytes) 1 (handle_at 8 bytes))))
asked_of opcodes.SetAttributes bytes = behind 88 bytes (Some (SetAttributes (changes_of bytes)))
asked_of opcodes.ReadSymbolicLink bytes = Some ReadSymbolicLink
asked_of opcodes.MakeSymbolicLink bytes = option_map (λ x. MakeSymbolicLink x.0 x.1) (names_of bytes)
asked_of opcodes.MakeNode bytes = behind 16 bytes (option_map (MakeNode (word_at 0 bytes) (word_at 4 bytes) (word_at 8 bytes)) (name_of (drop 16 bytes)))
asked_of opcodes.MakeDirectory bytes = behind 8 bytes (option_map (MakeDirectory (word_at 0 bytes) (word_at 4 bytes)) (name_of (drop 8 bytes)))
asked_of opcodes.Unlink bytes = option_map Unlink (name_of bytes)
asked_of opcodes.RemoveDirectory bytes = option_map RemoveDirectory (name_of bytes)
asked_of opcodes.Rename bytes = behind 8 bytes (option_map (λ x. Rename (node_at 0 bytes) 0 x.0 x.1) (names_of (drop 8 bytes)))
asked_of opcodes.RenameWithFlags bytes = behind 16 bytes (option_map (λ x. Rename (node_at 0 bytes) (word_at 8 bytes) x.0 x.1) (names_of (drop 16 bytes)))
asked_of opcodes.Link bytes = behind 8 bytes (option_map (Link (node_at 0 bytes)) (name_of (drop 8 bytes)))
asked_of opcodes.Open bytes = behind 8 bytes (Some (Open (word_at 0 bytes)))
asked_of opcodes.Read bytes = option_map (λ x. Read x.0 x.1 x.2) (piece_of bytes)
asked_of opcodes.Write bytes = behind 40 bytes (option_map (Write (handle_at 0 bytes) (long_at 8 bytes)) (written_of bytes))
asked_of opcodes.Statistics bytes = Some Statistics
asked_of opcodes.Release bytes = option_map Release (handle_of 24 bytes)
asked_of opcodes.Sync bytes = option_map (λ x. Sync x.0 x.1) (sync_of bytes)
asked_of opcodes.Flush bytes = option_map Flush (handle_of 24 bytes)
asked_of opcodes.OpenDirectory bytes = behind 8 bytes (Some (OpenDirectory (word_at 0 bytes)))
asked_of opcodes.ReadDirectory bytes = option_map (λ x. ReadDirectory x.0 x.1 x.2) (piece_of bytes)
asked_of opcodes.ReadDirectoryPlus bytes = option_map (λ x. ReadDirectoryPlus x.0 x.1 x.2) (piece_of bytes)
asked_of opcodes.ReleaseDirectory bytes = option_map ReleaseDirectory (handle_of 24 bytes)
asked_of opcodes.SyncDirectory bytes = option_map (λ x. SyncDirectory x.0 x.1) (sync_of bytes)
asked_of opcodes.Create bytes = behind 16 bytes (option_map (Create (word_at 0 bytes) (word_at 4 bytes) (word_at 8 bytes)) (name_of (drop 16 bytes)))
asked_of opcodes.Interrupt bytes = behind 8 bytes (Some (Interrupt (unique_at 0 bytes)))
asked_of opcodes.Destroy bytes = Some Destroy
asked_of opcodes.SyncVolume bytes = Some SyncVolume
asked_of opcodes.Allocate bytes = behind 32 bytes (Some (Allocate (handle_at 0 bytes) (long_at 8 bytes) (long_at 16 bytes) (word_at 24 bytes)))
asked_of (opcodes.Other opcode) bytes = Some (Other opcode)

-- what is asked for by a message that has a head
unfoldable pub request_at : List ℕ → Option Asked
request_at bytes = asked_of (opcode_of (word_at 4 bytes)) (drop 40 bytes)

-- the head
abbrev pub head_of : List ℕ → Head
head_of bytes =
    record { unique = unique_at 8 bytes; node = node_at 16 bytes; user = word_at 24 bytes; group = word_at 28 bytes; process = word_at 32 bytes }

-- a message: its length, its kind, the rest of its head, and its fields. None is shorter than its head or its fields, or says another length than
-- it has
abbrev pub decode : List ℕ → Option (Head × Asked)
decode bytes =
    if nat_lt (length bytes) 40 || not (word_at 0 bytes == length bytes) then None
    else option_map (λ asked. (head_of bytes, asked)) (request_at bytes)
