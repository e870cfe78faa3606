-- A number is freed, with its blocks.
use Rattle.std.specs.Prelude.{◌≡◌, ℕ, Bool, false, not, ◌&&◌, ◌||◌, ◌==◌, List, [], ◌∷◌, ◌↔◌, IsTrue, IsFalse}
use Rattle.std.specs.List.{Contains}
use Rattle.model.specs.Layout.{Geometry, is_number}
use Rattle.model.specs.View.{Inode, free_inode}
use Rattle.model.specs.Cells.{SetInode, SetNumber, SetBlock, updated}
use Rattle.model.specs.Uses.{has_position, IsClaim, IsClaimed}
use Rattle.machine.specs.State.{State, is_kept}
use Rattle.machine.specs.Cells.{claims}
use Rattle.ordering.specs.Cuts.{Cell, Record, Block, Pending}
use Rattle.ordering.specs.Ghosts.{Ghost, Gone, at_rest}
use Rattle.ordering.specs.Places.{HasPlace}

-- ---- the updates

-- the bits of these blocks are cleared, the first one first, each after the last update of n's record
abbrev pub cleared : ℕ → List ℕ → List Pending → List Pending
cleared n [] q = q
cleared n (b ∷ bs) q = cleared n bs (record { change = SetBlock b false; after = Record n ∷ [] } ∷ q)

-- record n is freed after these cells; after it the number's bit and those of these blocks are cleared
abbrev pub freeing : ℕ → List ℕ → List Cell → List Pending → List Pending
freeing n blocks after q =
    cleared n blocks (record { change = SetNumber n false; after = Record n ∷ [] } ∷ record { change = SetInode n free_inode; after = after } ∷ q)

-- ---- when they may be issued

-- exactly the blocks that n claims at a position that its new record does not have, those left out that the snapshot keeps
abbrev pub AreGivenUp : Geometry → State → ℕ → Inode → List ℕ → Type 0
AreGivenUp geo old n new blocks = (a : ℕ) → Contains blocks a ↔ (((k : ℕ) × IsClaim geo old.view n k a × IsFalse (has_position geo new k)) × IsFalse (is_kept old a))

-- the blocks that are held once n has its new record: those that it no longer claims and that the snapshot keeps, besides those held before
abbrev pub held_with : Geometry → State → ℕ → Inode → ℕ → Bool
held_with geo old n new a = old.held a || claims geo old.view n a && not (claims geo (updated old.view (SetInode n new)) n a) && is_kept old a

-- A held block is claimed by no inode.
abbrev pub HeldAreUnclaimed : Geometry → State → Type 0
HeldAreUnclaimed geo old = (a : ℕ) → IsTrue (old.held a) → IsClaimed geo old.view a → ⊥

-- within a command that took away the places of these names
abbrev pub within : (ℕ → Bool) → (Gone → Bool) → (ℕ → Bool) → Ghost
within held gone safe = record (at_rest held safe) { gone = gone }

-- and then took off the links of number n
abbrev pub but_of : ℕ → (Gone → Bool) → Gone → Bool
but_of n gone g = gone g && not (g.number == n)

-- No slot of a reachable directory names n, and the record comes after the updates that took its names away.
pub record MayFreeing (geo : Geometry) (old : State) (gone : Gone → Bool) (n : ℕ) (blocks : List ℕ) (after : List Cell) : Type 0 where
  pub number : IsTrue (is_number geo n)
  pub no_place : (d s b : ℕ) → HasPlace geo old.view n d s b → ⊥
  pub witnesses : (g : Gone) → IsTrue (gone g) → g.number ≡ n → Contains after (Block g.witness)
  pub given_up : AreGivenUp geo old n free_inode blocks
  pub held : HeldAreUnclaimed geo old
