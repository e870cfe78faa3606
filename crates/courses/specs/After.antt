-- The cells that the update of an entry comes after: those that it needs, and no others. A block's own updates keep their order, so that its cell may be among those of its update or not.
use Rattle.std.specs.Prelude.{◌≡◌, ℕ, zero, suc, ◌<◌, ◌/◌, ◌⊎◌, List, IsTrue}
use Rattle.std.specs.List.{All, Contains}
use Rattle.model.specs.Layout.{Geometry, root}
use Rattle.model.specs.View.{View}
use Rattle.model.specs.Shape.{most_blocks, is_table}
use Rattle.model.specs.Uses.{IsClaim}
use Rattle.model.specs.Reach.{Path}
use Rattle.ordering.specs.Cuts.{Cell, Record, Block}
use Rattle.plans_data.specs.Append.{Holder, new_blocks}
use Rattle.plans_naming.specs.Entries.{HasBlocks, HasOtherBlocks}
use Rattle.plans_naming.specs.Move.{HasGrounds}

-- ---- the blocks of a directory

-- a cell is the block that directory d claims at position k
abbrev pub IsBlockAt : Geometry → View → ℕ → ℕ → Cell → Type 0
IsBlockAt geo view d k c = (b : ℕ) × IsClaim geo view d k b × (c ≡ Block b)

-- and so at a position of a block of slots
abbrev pub IsBlockOf : Geometry → View → ℕ → Cell → Type 0
IsBlockOf geo view d c = (k : ℕ) × (k < most_blocks geo) × IsBlockAt geo view d k c

-- These cells are directory d's blocks.
pub record AreBlocks (geo : Geometry) (view : View) (d : ℕ) (after : List Cell) : Type 0 where
  pub needs : HasBlocks geo view d after
  pub only : All (IsBlockOf geo view d) after

-- These cells are its blocks but this one, which may be among them or not.
pub record AreOtherBlocks (geo : Geometry) (view : View) (d block : ℕ) (after : List Cell) : Type 0 where
  pub needs : HasOtherBlocks geo view d block after
  pub only : All (IsBlockOf geo view d) after

-- a new entry of directory d comes after no other cell: the record of the number that it names, or a block of the directory
abbrev pub IsBeforeEntry : Geometry → View → ℕ → ℕ → Cell → Type 0
IsBeforeEntry geo view d number c = (c ≡ Record number) ⊎ IsBlockOf geo view d c

-- ---- the grounds of a directory

-- a cell is the record of directory d, or one of its tables
abbrev pub IsOfDirectory : Geometry → View → ℕ → Cell → Type 0
IsOfDirectory geo view d c = (c ≡ Record d) ⊎ ((m : ℕ) × IsTrue (is_table geo m) × IsBlockAt geo view d m c)

-- a cell is one of the grounds of a directory: it is of the directory or of one on its path, or is a block where the name of one of them stands
abbrev pub IsGround : (geo : Geometry) (view : View) → Cell → (n d : ℕ) → Path geo view n d → Type 0
IsGround geo view c zero d p = IsOfDirectory geo view root c
IsGround geo view c (suc n) d p = IsGround geo view c n p.0 p.2 ⊎ (IsOfDirectory geo view d c ⊎ IsBlockAt geo view p.0 (p.1 / 16) c)

-- These cells are the grounds of directory d, besides such as are new; the block that is written may be among them or not.
pub record AreGroundsWith (geo : Geometry) (view : View) (d block : ℕ) (is_new : Cell → Type 0) (after : List Cell) : Type 0 where
  pub needs : HasGrounds geo view d block after
  pub only : All (λ c. is_new c ⊎ IsGround geo view c needs.steps d needs.path) after

-- a cell is the new block b of a directory, or one of the new tables that come with it
abbrev pub IsNewCell : ℕ → Holder → Cell → Type 0
IsNewCell b kept c = (c ≡ Block b) ⊎ ((x : ℕ) × Contains (new_blocks kept) x × (c ≡ Block x))
