-- What a volume went through into which files and folders of the host were put.
use Rattle.std.specs.Prelude.{◌≡◌, ℕ, ◌+◌, ◌*◌, suc, List, [], ◌∷◌, ◌++◌, length, map, Bool, true, false}
use Rattle.std.specs.Fork.{slice_chunk}
use Rattle.archives.specs.declared.entries.Kind.{Kind}
use Rattle.archives.specs.declared.entries.Kind.TheVariants as kind
use Rattle.device.specs.Media.{Held as Media}
use Rattle.snapshot.specs.Alive.{Alive}
use Rattle.snapshot.specs.Mounting.{IsMountable}
use Rattle.live_states.specs.Holdings.{IsIdle}
use Rattle.machine.specs.Command.{Command as Request, Create, Mkdir, Link, Open, Write, Close, Flush, Sync}
use Rattle.model.specs.Uses.{blocks_of}
use Rattle.softdep.specs.Queued.{fresh_queue, pending_of}
use Rattle.image_changes.specs.Asking.{Adds, Went}
use Rattle.import_tree.specs.declared.items.Item.{Item}
use Rattle.import_tree.specs.declared.items.Source.{Source}
use Rattle.import_tree.specs.declared.items.Source.TheVariants.{Host, Held}

-- The first n blocks of a file of these bytes are written by a handle, one after another; between them blocks may be flushed.
pub data WriteBlocks (handle : ℕ) (bytes : List ℕ) : ℕ → List Request → Type 0 where
  NoBlock : WriteBlocks handle bytes 0 []
  NextBlock : (n : ℕ) (requests : List Request) → WriteBlocks handle bytes n requests → WriteBlocks handle bytes (suc n) (requests ++ Write handle n (slice_chunk bytes 1024 n) ∷ [])
  ThenFlushed : (n : ℕ) (requests : List Request) (addresses : List ℕ) → WriteBlocks handle bytes n requests → WriteBlocks handle bytes n (requests ++ map Flush addresses)

-- what makes a file of these attributes and bytes: it is created, and if it has any bytes it is opened, each block is written, and it is closed
pub data MakesFile (path words bytes : List ℕ) (requests : List Request) : Type 0 where
  Empty : bytes ≡ [] → requests ≡ Create path words ∷ [] → MakesFile path words bytes requests
  Full : (handle : ℕ) (writes : List Request) → WriteBlocks handle bytes (blocks_of (length bytes)) writes → requests ≡ Create path words ∷ Open path ∷ (writes ++ Close handle ∷ []) → MakesFile path words bytes requests

-- what gives an empty file these bytes, whatever attributes it has
abbrev pub FillsFile : List ℕ → List ℕ → List Request → Type 0
FillsFile path bytes more = (words : List ℕ) → MakesFile path words bytes (Create path words ∷ more)

-- The first n blocks of a file of these bytes are written next, by a handle.
pub record AddsBlocks {D : Type 0} (handle : ℕ) (bytes : List ℕ) (n : ℕ) (held : Media) (image : List (List ℕ)) (old : Alive D) (held' : Media) (image' : List (List ℕ)) (new : Alive D) : Type 0 where
  pub requests : List Request
  pub write : WriteBlocks handle bytes n requests
  pub adds : Adds held image old requests held' image' new

-- The first n blocks of these bytes are written next, by a handle, behind the first blocks of a file, whatever they are.
abbrev pub AddsPart : {D : Type 0} → ℕ → ℕ → List ℕ → ℕ → Media → List (List ℕ) → Alive D → Media → List (List ℕ) → Alive D → Type 0
AddsPart handle first part n held image old held' image' new = (before : List ℕ) (held₀ : Media) (image₀ : List (List ℕ)) (start : Alive _) → length before ≡ first * 1024
    → AddsBlocks handle before first held₀ image₀ start held image old → AddsBlocks handle (before ++ part) (first + n) held₀ image₀ start held' image' new

-- an item, and the bytes that the host gave for it
abbrev pub Reading : Type 0
Reading = Item × List ℕ

abbrev pub item_of : Reading → Item
item_of reading = reading.0

-- bytes of a source: what it holds, if it holds any
abbrev pub IsTrueTo : Source → List ℕ → Type 0
IsTrueTo (Host path) bytes = Unit {0}
IsTrueTo (Held held) bytes = bytes ≡ held.items

abbrev pub IsTrueReading : Reading → Type 0
IsTrueReading reading = IsTrueTo reading.0.source reading.1

-- The bytes of a file, and what a symbolic link leads to, are written to it.
abbrev pub has_bytes : Kind → Bool
has_bytes kind.File = true
has_bytes kind.SymbolicLink = true
has_bytes other = false

-- a device or a fifo is its attributes alone
abbrev pub is_bare : Kind → Bool
is_bare kind.CharacterDevice = true
is_bare kind.BlockDevice = true
is_bare kind.Fifo = true
is_bare other = false

-- These requests put these items, one after another; between them blocks may be flushed, and all that waits may be written. The bytes of a hard link are the path that it is one more name of.
pub data ArePut : List Reading → List Request → Type 0 where
  Nothing : ArePut [] []
  Folder : (readings : List Reading) (requests : List Request) (item : Item) (read : List ℕ) → ArePut readings requests → item.kind ≡ kind.Folder → ArePut (readings ++ (item, read) ∷ []) (requests ++ Mkdir item.path.items item.attributes ∷ [])
  File : (readings : List Reading) (requests more : List Request) (item : Item) (read : List ℕ) → ArePut readings requests → has_bytes item.kind ≡ true → MakesFile item.path.items item.attributes read more → ArePut (readings ++ (item, read) ∷ []) (requests ++ more)
  Bare : (readings : List Reading) (requests : List Request) (item : Item) (read : List ℕ) → ArePut readings requests → is_bare item.kind ≡ true → ArePut (readings ++ (item, read) ∷ []) (requests ++ Create item.path.items item.attributes ∷ [])
  Linked : (readings : List Reading) (requests : List Request) (item : Item) (read : List ℕ) → ArePut readings requests → item.kind ≡ kind.HardLink → ArePut (readings ++ (item, read) ∷ []) (requests ++ Link read item.path.items ∷ [])
  Flushed : (readings : List Reading) (requests : List Request) (addresses : List ℕ) → ArePut readings requests → ArePut readings (requests ++ map Flush addresses)
  Written : (readings : List Reading) (requests : List Request) → ArePut readings requests → ArePut readings (requests ++ Sync ∷ [])

-- The requests put these items into a volume, and each was answered.
pub record WerePut {D : Type 0} (readings : List Reading) (held : Media) (image : List (List ℕ)) (old : Alive D) (held' : Media) (image' : List (List ℕ)) (new : Alive D) : Type 0 where
  pub requests : List Request
  pub put : ArePut readings requests
  pub went : Went held image old requests held' image' new

-- These items were put next, after whatever was put into whichever volume.
abbrev pub AddsItems : {D : Type 0} → List Reading → Media → List (List ℕ) → Alive D → Media → List (List ℕ) → Alive D → Type 0
AddsItems readings held image old held' image' new = (before : List Reading) (held₀ : Media) (image₀ : List (List ℕ)) (start : Alive _)
    → WerePut before held₀ image₀ start held image old → WerePut (before ++ readings) held₀ image₀ start held' image' new

-- The requests put these items into a volume, and a sync followed; each was answered.
pub record TookIn {D : Type 0} (readings : List Reading) (held : Media) (image : List (List ℕ)) (old : Alive D) (held' : Media) (image' : List (List ℕ)) (new : Alive D) : Type 0 where
  pub requests : List Request
  pub put : ArePut readings requests
  pub went : Went held image old (requests ++ Sync ∷ []) held' image' new

-- The volume of a device that held this and has this image was just mounted, and then it took these items in.
pub record PutMounted {D : Type 0} (held : Media) (image : List (List ℕ)) (readings : List Reading) (held' : Media) (image' : List (List ℕ)) (new : Alive D) : Type 0 where
  pub mounted : Alive D
  pub mountable : IsMountable mounted.kept.geometry image
  pub pending : pending_of mounted.queue ≡ []
  -- nothing was issued: so it is sound on its medium, where nothing of that is loose
  pub fresh : mounted.queue ≡ fresh_queue mounted.kept.geometry
  pub idle : IsIdle mounted.holdings
  pub took : TookIn readings held image mounted held' image' new
