-- What a new record of a number asks for, as far as blocks go.
use Rattle.std.specs.Prelude.{◌≡◌, ℕ, ◌<◌, ◌≤◌, ◌/◌, ◌⊎◌, Bool, not, ◌&&◌, ◌||◌, ◌==◌, List, Some, IsTrue, IsFalse}
use Rattle.std.specs.List.{Contains}
use Rattle.model.specs.Layout.{Geometry, is_number, is_data_address}
use Rattle.model.specs.View.{View, Inode}
use Rattle.model.specs.Shape.{most_blocks, is_table, table_of, place_in_table, IsAbove, top, field_at, pointer_in}
use Rattle.model.specs.Slots.{Empty, slot_in}
use Rattle.model.specs.Cells.{SetInode, updated}
use Rattle.model.specs.Uses.{has_position, is_sound, record_use, IsClaim}
use Rattle.ordering.specs.Cuts.{Cell, Record, NumberBit, BlockBit, Block, Pending, users_view, IsAfter}
use Rattle.ordering.specs.Places.{HasPlace}
use Rattle.ordering.specs.Ghosts.{Ghost, Gone}
use Rattle.ordering.specs.Kinds.{IsFree}

-- a position of the new record was one of the old record, with the same pointer in the record on its way
pub record Stays (geo : Geometry) (old new : Inode) (k : ℕ) : Type 0 where
  pub sound : IsTrue (is_sound geo old)
  pub used : IsTrue (has_position geo old k)
  pub field : field_at geo new (top geo k) ≡ field_at geo old (top geo k)

-- a position of the new record names a free block, whose contents come first and whose bit comes before them, and after the tables on its way
pub record Comes (geo : Geometry) (disk : View) (q : List Pending) (ghost : Ghost) (after : List Cell) (new : Inode) (k b : ℕ) : Type 0 where
  pub uses : record_use geo (users_view disk q) new k ≡ Some b
  pub address : IsTrue (is_data_address geo b)
  pub free : IsFree geo (users_view disk q) ghost b
  pub bit : IsAfter disk q (Block b) (BlockBit b)
  pub contents : Contains after (Block b)
  pub tables : (m t : ℕ) → IsAbove geo k m → record_use geo (users_view disk q) new m ≡ Some t → Contains after (Block t)

-- a new record of a number: each position stays or comes, and the block of one that goes is held or given up
pub record Rewrites (geo : Geometry) (disk : View) (q : List Pending) (ghost ghost' : Ghost) (after : List Cell) (n : ℕ) (new : Inode) : Type 0 where
  pub number : IsTrue (is_number geo n)
  pub sound : (new.mode ≡ 0) ⊎ IsTrue (is_sound geo new)
  pub came : (k : ℕ) → IsTrue (is_sound geo new) → IsTrue (has_position geo new k) → Stays geo ((users_view disk q).inode n) new k ⊎ ((b : ℕ) × Comes geo disk q ghost after new k b)
  pub once : (k j b : ℕ) → IsTrue (has_position geo new k) → IsTrue (has_position geo new j) → Comes geo disk q ghost after new k b → Comes geo disk q ghost after new j b → k ≡ j
  pub went : (k b : ℕ) → IsClaim geo (users_view disk q) n k b
      → IsClaim geo (updated (users_view disk q) (SetInode n new)) n k b ⊎ (IsTrue (ghost'.held b) ⊎ IsTrue (ghost'.given_up b n k))
  pub held : (b : ℕ) → IsTrue (ghost.held b) → IsTrue (ghost'.held b)
  pub given_up : (b m k : ℕ) → IsTrue (ghost.given_up b m k) → IsTrue (ghost'.given_up b m k)

-- the ghosts after blocks were given up or held
abbrev pub moved : (ℕ → Bool) → (ℕ → ℕ → ℕ → Bool) → Ghost → Ghost
moved held given_up ghost = record ghost { held = held; given_up = given_up }

-- a file's new record
pub record MayRewriteFile (geo : Geometry) (disk : View) (q : List Pending) (ghost ghost' : Ghost) (after : List Cell) (n : ℕ) (new : Inode) : Type 0 where
  pub file : ((users_view disk q).inode n).mode ≡ 1
  pub sound : IsTrue (is_sound geo ((users_view disk q).inode n))
  pub still_file : new.mode ≡ 1
  pub links : ((users_view disk q).inode n).links ≤ new.links
  pub blocks : Rewrites geo disk q ghost ghost' after n new

-- a directory's new record, which has its old blocks, and new ones whose slots are empty
pub record MayGrowDirectory (geo : Geometry) (disk : View) (q : List Pending) (ghost : Ghost) (after : List Cell) (n : ℕ) (new : Inode) : Type 0 where
  pub directory : ((users_view disk q).inode n).mode ≡ 2
  pub sound : IsTrue (is_sound geo ((users_view disk q).inode n))
  pub still_directory : new.mode ≡ 2
  pub still_sound : IsTrue (is_sound geo new)
  pub links : ((users_view disk q).inode n).links ≤ new.links
  pub old_blocks : (k : ℕ) → IsTrue (has_position geo ((users_view disk q).inode n) k) → IsTrue (has_position geo new k) × Stays geo ((users_view disk q).inode n) new k
  pub empty : (s : ℕ) → IsFalse (has_position geo ((users_view disk q).inode n) (s / 16)) → IsTrue (has_position geo new (s / 16)) → s / 16 < most_blocks geo
      → (b : ℕ) × Comes geo disk q ghost after new (s / 16) b × (slot_in geo ((users_view disk q).bytes b) s ≡ Empty)
  pub blocks : Rewrites geo disk q ghost ghost after n new

-- the first record of a number, a file's or a directory's
pub record MayCreate (geo : Geometry) (disk : View) (q : List Pending) (ghost : Ghost) (after : List Cell) (n : ℕ) (new : Inode) : Type 0 where
  pub free : ((users_view disk q).inode n).mode ≡ 0
  pub marked : IsTrue ((users_view disk q).number_marked n)
  pub not_zeroed : IsFalse (ghost.zeroed n)
  pub bit : Contains after (NumberBit n)
  pub sound : IsTrue (is_sound geo new)
  pub blocks : Rewrites geo disk q ghost ghost after n new

-- a new directory has no entry yet
abbrev pub entered : ℕ → Ghost → Ghost
entered n ghost = record ghost { entering = λ j. j == n || ghost.entering j }

-- the ghosts after a record was freed
abbrev pub freed : (ℕ → Bool) → (ℕ → ℕ → ℕ → Bool) → ℕ → Ghost → Ghost
freed held given_up n ghost = record {
  held = held;
  gone = λ g. ghost.gone g && not (g.number == n);
  given_up = given_up;
  zeroed = λ m. m == n || ghost.zeroed m;
  entering = ghost.entering;
  safe = ghost.safe;
}

-- a number without names is freed
pub record MayFree (geo : Geometry) (disk : View) (q : List Pending) (ghost ghost' : Ghost) (after : List Cell) (n : ℕ) (new : Inode) : Type 0 where
  pub no_place : (d s b : ℕ) → HasPlace geo (users_view disk q) n d s b → ⊥
  pub witnesses : (g : Gone) → IsTrue (ghost.gone g) → g.number ≡ n → Contains after (Block g.witness)
  pub free : new.mode ≡ 0
  pub blocks : Rewrites geo disk q ghost ghost' after n new

-- one pointer alone is another in the new bytes of a table, and it was 0
pub record FillsPlace (before bytes : List ℕ) (place : ℕ) : Type 0 where
  pub others : (j : ℕ) → j < 256 → (j ≡ place → ⊥) → pointer_in before j ≡ pointer_in bytes j
  pub none : pointer_in before place ≡ 0

-- new bytes of a table, which change no pointer that is in use: a pointer that was 0 is none in any record, and otherwise the record comes first
pub record MayAppendSlot (geo : Geometry) (users : View) (after : List Cell) (n m x : ℕ) (bytes : List ℕ) : Type 0 where
  pub table : IsTrue (is_table geo m)
  pub claims : IsClaim geo users n m x
  pub record_first : Contains after (Record n) ⊎ ((place : ℕ) × FillsPlace (users.bytes x) bytes place)
  pub others : (k : ℕ) → table_of geo k ≡ Some m → IsTrue (has_position geo (users.inode n) k) → pointer_in (users.bytes x) (place_in_table geo k) ≡ pointer_in bytes (place_in_table geo k)

-- new bytes of a file's table, which move one block in use to a free one
pub record MayMoveSlot (geo : Geometry) (disk : View) (q : List Pending) (ghost ghost' : Ghost) (after : List Cell) (n m x p : ℕ) (bytes : List ℕ) : Type 0 where
  pub table : table_of geo p ≡ Some m
  pub no_table : IsFalse (is_table geo p)
  pub claims : IsClaim geo (users_view disk q) n m x
  pub tables : (t u : ℕ) → IsAbove geo m t → IsClaim geo (users_view disk q) n t u → Contains after (Block u)
  pub record_first : Contains after (Record n)
  pub file : ((users_view disk q).inode n).mode ≡ 1
  pub used : IsTrue (has_position geo ((users_view disk q).inode n) p)
  pub others : (k : ℕ) → (k ≡ p → ⊥) → table_of geo k ≡ Some m → pointer_in ((users_view disk q).bytes x) (place_in_table geo k) ≡ pointer_in bytes (place_in_table geo k)
  pub free : IsFree geo (users_view disk q) ghost (pointer_in bytes (place_in_table geo p))
  pub address : IsTrue (is_data_address geo (pointer_in bytes (place_in_table geo p)))
  pub bit : IsAfter disk q (Block (pointer_in bytes (place_in_table geo p))) (BlockBit (pointer_in bytes (place_in_table geo p)))
  pub contents : Contains after (Block (pointer_in bytes (place_in_table geo p)))
  pub dropped : (b : ℕ) → IsClaim geo (users_view disk q) n p b → IsTrue (ghost'.held b)
  pub held : (b : ℕ) → IsTrue (ghost.held b) → IsTrue (ghost'.held b)
  pub given_up : (b m k : ℕ) → IsTrue (ghost.given_up b m k) → IsTrue (ghost'.given_up b m k)
