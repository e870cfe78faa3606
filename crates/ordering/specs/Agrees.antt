-- The invariant that ties what a closed cut shows to what the users see.
use Rattle.std.specs.Prelude.{◌≡◌, ◌≢◌, ℕ, ◌≤◌, Bool, ◌⊎◌, IsTrue, IsFalse, List}
use Rattle.model.specs.Layout.{Geometry}
use Rattle.model.specs.View.{View}
use Rattle.model.specs.Uses.{is_directory_at, IsUse, IsClaim, IsClaimed}
use Rattle.model.specs.Reach.{IsReachableDirectory, IsReachable}
use Rattle.model.specs.Rules.{ObeysRules}
use Rattle.ordering.specs.Cuts.{Cell, Record, NumberBit, BlockBit, Block, Pending, EachCut, SameAt, users_view}
use Rattle.ordering.specs.Places.{HasPlace}
use Rattle.ordering.specs.Ghosts.{Ghost, Gone}

-- records and the bits of numbers
pub record NumbersAgree (users : View) (ghost : Ghost) (set : Cell → Bool) : Type 0 where
  pub free : (n : ℕ) → (users.inode n).mode ≡ 0 → IsTrue (set (NumberBit n)) → IsFalse (ghost.zeroed n) → IsTrue (set (Record n))
  pub used : (n : ℕ) → (users.inode n).mode ≢ 0 → IsTrue (set (Record n)) → IsTrue (set (NumberBit n))

-- claims and the bits of blocks
pub record BlocksAgree (geo : Geometry) (users : View) (ghost : Ghost) (set : Cell → Bool) (view : View) : Type 0 where
  pub unclaimed : (b n k : ℕ) → IsTrue (set (BlockBit b)) → (IsClaimed geo users b → ⊥) → IsFalse (ghost.held b) → IsClaim geo view n k b → IsTrue (ghost.given_up b n k)
  pub claimed : (b n k m l : ℕ) → IsTrue (set (BlockBit b)) → IsClaim geo users n k b → IsClaim geo view m l b → (m ≡ n) × (l ≡ k) × IsTrue (set (NumberBit n))
  pub marked : (b n k : ℕ) → IsClaim geo users n k b → IsTrue (set (Block b)) → IsTrue (set (BlockBit b))

-- the present incarnation of a number
pub record ModesAgree (geo : Geometry) (users : View) (set : Cell → Bool) (view : View) : Type 0 where
  pub mode : (n : ℕ) → IsTrue (set (NumberBit n)) → (users.inode n).mode ≢ 0 → (view.inode n).mode ≢ 0 → (view.inode n).mode ≡ (users.inode n).mode
  pub uses : (n k b : ℕ) → IsTrue (set (NumberBit n)) → (users.inode n).mode ≢ 0 → IsTrue (is_directory_at geo view n) → IsUse geo view n k b → IsUse geo users n k b

-- names
pub record TreeAgrees (geo : Geometry) (users : View) (ghost : Ghost) (set : Cell → Bool) (view : View) : Type 0 where
  pub places : (i d s b : ℕ) → IsTrue (set (Record i)) → HasPlace geo view i d s b
      → HasPlace geo users i d s b ⊎ ((w : ℕ) × IsTrue (ghost.gone (record { number = i; directory = d; slot = s; block = b; witness = w })))
  pub directories : (j d s b : ℕ) → IsReachableDirectory geo users j ⊎ IsTrue (ghost.entering j) → IsTrue (set (NumberBit j)) → 2 ≤ s → HasPlace geo view j d s b → HasPlace geo users j d s b
  pub numbers : (i d s b : ℕ) → 2 ≤ s → HasPlace geo users i d s b → IsTrue (set (Block b)) → IsTrue (set (NumberBit i))
  pub removed : (g : Gone) → IsTrue (ghost.gone g) → IsTrue (set (Block g.witness)) → HasPlace geo view g.number g.directory g.slot g.block → ⊥

-- a cut with these fresh cells and this view agrees with the users' view
pub record Agrees (geo : Geometry) (users : View) (ghost : Ghost) (set : Cell → Bool) (view : View) : Type 0 where
  pub same : (c : Cell) → IsTrue (set c) → SameAt view users c
  pub rules : ObeysRules geo view
  pub numbers : NumbersAgree users ghost set
  pub blocks : BlocksAgree geo users ghost set view
  pub modes : ModesAgree geo users set view
  pub tree : TreeAgrees geo users ghost set view
  pub safe : (f : ℕ) → IsTrue (ghost.safe f) → IsReachable geo view f

-- each closed cut agrees with the users' view
abbrev pub AllAgree : Geometry → View → List Pending → Ghost → Type 0
AllAgree geo disk q ghost = EachCut disk q (Agrees geo (users_view disk q) ghost)
