-- What an update of each kind asks for.
use Rattle.std.specs.Prelude.{◌≡◌, ℕ, ◌≤◌, not, ◌&&◌, ◌==◌, List, ◌∷◌, IsTrue, IsFalse}
use Rattle.std.specs.List.{Contains}
use Rattle.model.specs.Layout.{Geometry}
use Rattle.model.specs.View.{View, Inode}
use Rattle.model.specs.Shape.{is_table}
use Rattle.model.specs.Uses.{has_position, is_sound, is_sound_at, blocks_of, IsClaim, IsClaimed}
use Rattle.model.specs.Reach.{HasEntries}
use Rattle.ordering.specs.Cuts.{Cell, Record, BlockBit, Block, Pending}
use Rattle.ordering.specs.Ghosts.{Ghost, Gone}
use Rattle.ordering.specs.Agrees.{AllAgree}

-- an update keeps the invariant
abbrev pub Keeps : Geometry → View → List Pending → Ghost → Pending → Ghost → Type 0
Keeps geo disk q ghost u ghost' = AllAgree geo disk q ghost → AllAgree geo disk (u ∷ q) ghost'

-- a marked block that nobody claims, holds or gives up
pub record IsFree (geo : Geometry) (users : View) (ghost : Ghost) (b : ℕ) : Type 0 where
  pub marked : IsTrue (users.block_marked b)
  pub unclaimed : IsClaimed geo users b → ⊥
  pub not_held : IsFalse (ghost.held b)
  pub not_given_up : (n k : ℕ) → IsFalse (ghost.given_up b n k)

-- the contents of a free block, after its bit
pub record MayFill (geo : Geometry) (users : View) (ghost : Ghost) (after : List Cell) (b : ℕ) : Type 0 where
  pub free : IsFree geo users ghost b
  pub bit : Contains after (BlockBit b)

-- records that differ in links and in the size below the same number of blocks
pub record SameBody (geo : Geometry) (x y : Inode) : Type 0 where
  pub sound : IsTrue (is_sound geo x)
  pub still_sound : IsTrue (is_sound geo y)
  pub mode : x.mode ≡ y.mode
  pub blocks : blocks_of x.size ≡ blocks_of y.size
  pub direct : x.direct ≡ y.direct
  pub indirect : x.indirect ≡ y.indirect
  pub double : x.double ≡ y.double

-- a record with no fewer links
pub record MayRaise (geo : Geometry) (users : View) (n : ℕ) (inode : Inode) : Type 0 where
  pub body : SameBody geo (users.inode n) inode
  pub links : (users.inode n).links ≤ inode.links

-- the bit of a number whose record is free
pub record MayClearNumber (users : View) (ghost : Ghost) (after : List Cell) (n : ℕ) : Type 0 where
  pub free : (users.inode n).mode ≡ 0
  pub freed : IsTrue (ghost.zeroed n) → Contains after (Record n)

abbrev pub number_cleared : ℕ → Ghost → Ghost
number_cleared n ghost = record ghost { zeroed = λ m. ghost.zeroed m && not (m == n) }

-- the bit of a block that nobody claims
pub record MayClearBlock (geo : Geometry) (users : View) (ghost : Ghost) (after : List Cell) (b : ℕ) : Type 0 where
  pub unclaimed : IsClaimed geo users b → ⊥
  pub not_held : IsFalse (ghost.held b)
  pub record_first : (n k : ℕ) → IsTrue (ghost.given_up b n k) → Contains after (Record n)
  pub no_position : (n k : ℕ) → IsTrue (ghost.given_up b n k) → IsTrue (is_sound_at geo users n) → IsTrue (has_position geo (users.inode n) k) → ⊥

abbrev pub block_cleared : ℕ → Ghost → Ghost
block_cleared b ghost = record ghost { given_up = λ a n k. ghost.given_up a n k && not (a == b) }

-- the contents of a file's block in place
pub record MayWrite (geo : Geometry) (users : View) (n p b : ℕ) : Type 0 where
  pub claims : IsClaim geo users n p b
  pub no_table : IsFalse (is_table geo p)
  pub file : (users.inode n).mode ≡ 1

-- a record with fewer links, after the updates that took names away
pub record MayLower (geo : Geometry) (users : View) (ghost : Ghost) (after : List Cell) (n : ℕ) (inode : Inode) : Type 0 where
  pub body : SameBody geo (users.inode n) inode
  pub witnesses : (g : Gone) → IsTrue (ghost.gone g) → g.number ≡ n → Contains after (Block g.witness)
  pub links : (m : ℕ) → HasEntries geo users n m → m ≤ inode.links

abbrev pub settled : ℕ → Ghost → Ghost
settled n ghost = record ghost { gone = λ g. ghost.gone g && not (g.number == n) }
