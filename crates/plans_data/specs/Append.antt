-- An inode gets one more block.
use Rattle.std.specs.Prelude.{◌≡◌, ◌≢◌, ℕ, ◌+◌, ◌%◌, ◌<◌, ◌==◌, if◌then◌else◌, true, List, [], ◌∷◌, ◌++◌, map, length, replicate, Some, None, IsTrue, IsFalse}
use Rattle.model.specs.Layout.{Geometry, IsGeometry, is_number}
use Rattle.model.specs.View.{View, Inode, u32_at}
use Rattle.model.specs.Image.{IsBlock}
use Rattle.model.specs.Cells.{Update, SetInode, SetBlock, SetBytes}
use Rattle.model.specs.Shape.{direct_positions, most_blocks, table_of, place_in_table, above, with_field, pointer_in}
use Rattle.model.specs.Uses.{blocks_of, is_sound_at, has_position, IsClaim}
use Rattle.machine.specs.Cells.{block_of, with_pointer}
use Rattle.machine.specs.Room.{IsFreeBlock}
use Rattle.machine.specs.Whole.{HasWholeBlocks}
use Rattle.ordering.specs.Cuts.{Cell, Record, BlockBit, Block, Pending}
use Rattle.ordering.specs.Ghosts.{Ghost}

-- Where the pointer to a new block is kept: in the record; in the table at position m, which is block x with these bytes, with these blocks as the tables over it, the nearest first; or in a new table at position m, which is
-- block x with these bytes, and whose own pointer is kept there.
pub data Holder : Type 0 where
  KeptInRecord : Holder
  KeptInTable : (m x : ℕ) (table over : List ℕ) → Holder
  KeptInNew : (m x : ℕ) (table : List ℕ) → Holder → Holder

-- the new tables, the nearest first
abbrev pub new_blocks : Holder → List ℕ
new_blocks KeptInRecord = []
new_blocks (KeptInTable m x table over) = []
new_blocks (KeptInNew m x table up) = x ∷ new_blocks up

-- and all tables on the way to the record
abbrev pub blocks_on_way : Holder → List ℕ
blocks_on_way KeptInRecord = []
blocks_on_way (KeptInTable m x table over) = x ∷ over
blocks_on_way (KeptInNew m x table up) = x ∷ blocks_on_way up

-- ---- the updates

-- a block is marked and then filled
abbrev pub filled : ℕ → List ℕ → List Pending → List Pending
filled b bytes q =
    record { change = SetBytes b bytes; after = BlockBit b ∷ [] }
    ∷ record { change = SetBlock b true; after = [] } ∷ q

-- what a pointer to block b of inode n comes after that is put at this place into a table with these bytes: the block, and where another pointer stood there the record and the tables over it too, since an older record
-- may have it in use
abbrev pub pointer_after : ℕ → ℕ → ℕ → List ℕ → List ℕ → List Cell
pointer_after n place b table over = Block b ∷ (if pointer_in table place == 0 then [] else Record n ∷ map Block over)

-- position k of inode n points to block b, unless the record itself is to hold the pointer
abbrev pub linked : Geometry → ℕ → ℕ → ℕ → Holder → List Pending → List Pending
linked geo n k b KeptInRecord q = q
linked geo n k b (KeptInTable m x table over) q =
    record { change = SetBytes x (with_pointer table (place_in_table geo k) b); after = pointer_after n (place_in_table geo k) b table over } ∷ q
linked geo n k b (KeptInNew m x table up) q =
    linked geo n m x up
    (record { change = SetBytes x table; after = BlockBit x ∷ Block b ∷ [] }
    ∷ record { change = SetBlock x true; after = [] } ∷ q)

-- the cells that change so, the first one first
abbrev pub cells_of : Geometry → ℕ → ℕ → Holder → List Update
cells_of geo k b KeptInRecord = []
cells_of geo k b (KeptInTable m x table over) = SetBytes x (with_pointer table (place_in_table geo k) b) ∷ []
cells_of geo k b (KeptInNew m x table up) = SetBlock x true ∷ SetBytes x table ∷ cells_of geo m x up

-- the record by which position k points to block b
abbrev pub pointed : Geometry → Inode → ℕ → ℕ → Holder → Inode
pointed geo inode k b KeptInRecord = with_field geo inode k b
pointed geo inode k b (KeptInTable m x table over) = inode
pointed geo inode k b (KeptInNew m x table up) = pointed geo inode m x up

-- the contents and the tables, which come before the record
abbrev pub known : ℕ → Holder → List Cell
known b KeptInRecord = Block b ∷ []
known b (KeptInTable m x table over) = map Block over ++ Block x ∷ Block b ∷ []
known b (KeptInNew m x table up) = known x up ++ Block b ∷ []

-- a record with this size
abbrev pub sized : Inode → ℕ → Inode
sized inode size = record inode { size = size }

-- inode n, with this record, gets block b with these bytes at position k, and this size
abbrev pub appended : Geometry → ℕ → Inode → ℕ → ℕ → List ℕ → ℕ → Holder → List Pending → List Pending
appended geo n inode k b bytes size holder q =
    record { change = SetInode n (sized (pointed geo inode k b holder) size); after = known b holder }
    ∷ linked geo n k b holder (filled b bytes q)

-- ---- when they may be issued

-- The volume has a geometry, each record has its 12 pointers, and each data block its 1,024 bytes.
pub record IsWhole (geo : Geometry) (view : View) : Type 0 where
  pub geometry : IsGeometry geo
  pub pointers : (n : ℕ) → IsTrue (is_number geo n) → length (view.inode n).direct ≡ direct_positions
  pub blocks : HasWholeBlocks geo view

-- A block that is not marked is neither held for a snapshot nor given up within this command.
abbrev pub IsSpare : View → Ghost → Type 0
IsSpare view ghost = (a : ℕ) → IsFalse (view.block_marked a) → IsFalse (ghost.held a) × ((n k : ℕ) → IsFalse (ghost.given_up a n k))

-- block b is none of these
abbrev pub IsNoneOf : ℕ → List ℕ → Type 0
IsNoneOf b [] = Unit {0}
IsNoneOf b (x ∷ xs) = (x ≢ b) × IsNoneOf b xs

-- no block twice
abbrev pub AreApart : List ℕ → Type 0
AreApart [] = Unit {0}
AreApart (b ∷ xs) = IsNoneOf b xs × AreApart xs

-- a new table, whose first pointer is to block b
pub record IsNewTable (geo : Geometry) (view : View) (b x : ℕ) (table : List ℕ) : Type 0 where
  pub free : IsFreeBlock geo view x
  pub other : x ≢ b
  pub whole : IsBlock table
  pub first : u32_at table 0 ≡ b

-- The pointer of position k of inode n to block b is kept there: in a table that n claims, or in a new one where it has none.
abbrev pub IsKeptIn : Geometry → View → ℕ → ℕ → ℕ → Holder → Type 0
IsKeptIn geo view n k b KeptInRecord = table_of geo k ≡ None
IsKeptIn geo view n k b (KeptInTable m x table over) =
    (table_of geo k ≡ Some m) × IsClaim geo view n m x × (table ≡ view.bytes x) × (over ≡ map (block_of geo view n) (above geo m))
IsKeptIn geo view n k b (KeptInNew m x table up) =
    (table_of geo k ≡ Some m) × IsFalse (has_position geo (view.inode n) m) × IsNewTable geo view b x table × IsKeptIn geo view n m x up

-- the inode is a file, or the bytes are the zeroes of a directory's new block
pub data IsContent (inode : Inode) (bytes : List ℕ) (size : ℕ) : Type 0 where
  OfFile : inode.mode ≡ 1 → IsContent inode bytes size
  OfDirectory : inode.mode ≡ 2 → bytes ≡ replicate 1024 0 → size % 1024 ≡ 0 → IsContent inode bytes size

-- A sound inode with a position left gets an unmarked block after its last one.
pub record MayAppend (geo : Geometry) (view : View) (ghost : Ghost) (n k b : ℕ) (bytes : List ℕ) (size : ℕ) (holder : Holder) : Type 0 where
  pub whole : IsWhole geo view
  pub spare : IsSpare view ghost
  pub sound : IsTrue (is_sound_at geo view n)
  pub next : k ≡ blocks_of (view.inode n).size
  pub room : k < most_blocks geo
  pub blocks : blocks_of size ≡ 1 + k
  pub free : IsFreeBlock geo view b
  pub kept : IsKeptIn geo view n k b holder
  pub apart : AreApart (b ∷ new_blocks holder)
  pub content : IsContent (view.inode n) bytes size
