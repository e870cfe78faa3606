-- What a command chose that enters a name into a directory.
use Rattle.std.specs.Prelude.{◌≡◌, ◌≢◌, ℕ, ◌<◌, ◌+◌, ◌/◌, Bool, if◌then◌else◌, List, [], ◌∷◌, Option, Some, MatchOption, IfSome, IsTrue, IsFalse}
use Rattle.std.specs.Option.{option_map_or}
use Rattle.model.specs.Layout.{Geometry}
use Rattle.model.specs.View.{View}
use Rattle.model.specs.Uses.{blocks_of, claim_at}
use Rattle.model.specs.Slots.{Empty, slot}
use Rattle.machine.specs.Room.{IsFreeBlock, has_room, blocks_to_enter}
use Rattle.plans_data.specs.Append.{IsNoneOf}
use Rattle.plans_data.specs.Plans.{IsChoice}
use Rattle.metadata.specs.Free.{IsNextBlock}
use Rattle.live_places.specs.declared.choosing.Place.{Place}
use Rattle.live_places.specs.declared.choosing.Place.TheVariants.{Slot, NewBlock}
use Rattle.live_places.specs.declared.choosing.Places.{Places}

-- how many blocks a new entry of directory d takes, with the one for a new directory itself
abbrev pub blocks_needed : Geometry → View → ℕ → Bool → ℕ
blocks_needed geo view d own = (if own then 1 else 0) + blocks_to_enter geo view d

-- a new directory's own block, exactly where one is asked for
abbrev pub IsOwn : Geometry → View → Bool → Option ℕ → Type 0
IsOwn geo view own block = MatchOption block (IsFalse own) (λ b. IsTrue own × IsFreeBlock geo view b)

-- Slot s is the first empty one of directory d, and stands in this block of it.
pub record IsEmptySlot (geo : Geometry) (view : View) (d s block : ℕ) : Type 0 where
  pub empty : slot geo view d s ≡ Empty
  pub first : (t : ℕ) → t < s → slot geo view d t ≢ Empty
  pub stands : claim_at geo view d (s / 16) ≡ Some block
  pub room : IsTrue (has_room geo view d)

-- Directory d has no empty slot, and these blocks may be given out: one for the entry, and as many for tables as come with it.
pub record IsNewBlock (geo : Geometry) (view : View) (d block : ℕ) (tables : List ℕ) : Type 0 where
  pub none : IsFalse (has_room geo view d)
  pub choice : IsChoice geo view (blocks_of (view.inode d).size) block tables

-- a new entry of directory d may go there
abbrev pub IsPlace : Geometry → View → ℕ → Place → Type 0
IsPlace geo view d (Slot s block) = IsEmptySlot geo view d s block
IsPlace geo view d (NewBlock block tables) = IsNewBlock geo view d block tables

-- the new blocks of the directory are others than this one
abbrev pub IsOther : Place → ℕ → Type 0
IsOther (Slot s block) a = Unit {0}
IsOther (NewBlock block tables) a = IsNoneOf a (block ∷ tables)

-- the first address behind a block, and 0 behind none
abbrev pub behind : Option ℕ → ℕ
behind block = option_map_or (λ a. a + 1) block 0

-- each of these is the least one that may be given out, from an address on and then behind the one before
abbrev pub AreNextBlocks : Geometry → View → ℕ → List ℕ → Type 0
AreNextBlocks geo view from [] = Unit {0}
AreNextBlocks geo view from (x ∷ xs) = IsNextBlock geo view from x × AreNextBlocks geo view (x + 1) xs

-- new blocks are the least ones from an address on that may be given out
abbrev pub AreLeastFrom : Geometry → View → ℕ → Place → Type 0
AreLeastFrom geo view from (Slot s block) = Unit {0}
AreLeastFrom geo view from (NewBlock block tables) = AreNextBlocks geo view from (block ∷ tables)

-- A place for a new entry of directory d, and a block for a new directory itself where one is asked for.
pub record AreChosen (geo : Geometry) (view : View) (d : ℕ) (asked : Bool) (places : Places) : Type 0 where
  pub own : IsOwn geo view asked places.own
  pub place : IsPlace geo view d places.place
  -- no block is chosen twice
  pub apart : IfSome places.own (IsOther places.place)
  -- and they are the least ones, in ascending order
  pub first : IfSome places.own (IsNextBlock geo view 0)
  pub next : AreLeastFrom geo view (behind places.own) places.place
