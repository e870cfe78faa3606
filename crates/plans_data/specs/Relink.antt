-- An inode gets fewer links, or is freed where none are left and it is not open; a handle is closed; repairs.
use Rattle.std.specs.Prelude.{◌≡◌, ℕ, ◌-◌, ◌≤◌, Bool, false, not, ◌&&◌, ◌==◌, List, [], ◌∷◌, None, if◌then◌else◌, IsTrue, IsFalse}
use Rattle.model.specs.Layout.{Geometry, is_number}
use Rattle.model.specs.View.{View, Inode, free_inode}
use Rattle.model.specs.Cells.{SetInode, SetNumber, SetBlock, put_at}
use Rattle.model.specs.Uses.{is_sound_at, IsClaimed}
use Rattle.model.specs.Reach.{HasEntries}
use Rattle.findings.specs.declared.repair.Repair.{Repair}
use Rattle.findings.specs.declared.repair.Repair.TheVariants.{DropInode, LowerCount, FreeBlock, FreeNumber}
use Rattle.machine.specs.State.{State, is_open}
use Rattle.machine.specs.Effects.{with_links}
use Rattle.ordering.specs.Cuts.{Pending}
use Rattle.plans_data.specs.Freeing.{AreGivenUp, HeldAreUnclaimed, held_with, freeing}

-- ---- the updates

-- whether an inode of so many links goes
abbrev pub goes_away : ℕ → Bool → Bool
goes_away links opened = links == 0 && not opened

-- inode n, with this record, gets this number of links, and is freed with these blocks if that is 0 and it is not open
abbrev pub relinking : ℕ → Inode → ℕ → Bool → List ℕ → List Pending → List Pending
relinking n inode links opened blocks q =
    if goes_away links opened then freeing n blocks [] q
    else record { change = SetInode n (with_links inode links); after = [] } ∷ q

-- a handle of inode n, with this record, is closed, and the inode is open by another or not
abbrev pub closing : ℕ → Inode → Bool → List ℕ → List Pending → List Pending
closing n inode opened blocks q = if goes_away inode.links opened then freeing n blocks [] q else q

-- a repair of an inode with this record, which is open or not
abbrev pub repairing : Repair → Inode → Bool → List ℕ → List Pending → List Pending
repairing (DropInode n) inode opened blocks q = relinking n inode 0 opened blocks q
repairing (LowerCount n x) inode opened blocks q = relinking n inode (inode.links - x) opened blocks q
repairing (FreeBlock a) inode opened blocks q = record { change = SetBlock a false; after = [] } ∷ q
repairing (FreeNumber n) inode opened blocks q = record { change = SetNumber n false; after = [] } ∷ q

-- ---- when they may be issued

-- what is held after a number went or stayed
abbrev pub held_if : Bool → Geometry → State → ℕ → ℕ → Bool
held_if gone geo old n = if gone then held_with geo old n free_inode else old.held

-- The links that are left are enough for the entries, and the blocks are given up if the inode goes.
pub record MayRelink (geo : Geometry) (old : State) (n links : ℕ) (blocks : List ℕ) : Type 0 where
  pub sound : IsTrue (is_sound_at geo old.view n)
  pub enough : (m : ℕ) → HasEntries geo old.view n m → m ≤ links
  pub given_up : IsTrue (goes_away links (is_open old n)) → AreGivenUp geo old n free_inode blocks
  pub held : HeldAreUnclaimed geo old

-- the state with handle h closed
abbrev pub without_handle : ℕ → State → State
without_handle h old = record old { opened = put_at old.opened h None }

-- An open number, whose blocks are given up if it goes.
pub record MayClose (geo : Geometry) (old : State) (h n : ℕ) (blocks : List ℕ) : Type 0 where
  pub number : IsTrue (is_number geo n)
  pub given_up : IsTrue (goes_away (old.view.inode n).links (is_open (without_handle h old) n)) → AreGivenUp geo old n free_inode blocks
  pub held : HeldAreUnclaimed geo old

-- What each repair asks for; the record is that of the inode that it names.
abbrev pub MayRepair : Geometry → State → Repair → List ℕ → Type 0
MayRepair geo old (DropInode n) blocks = MayRelink geo old n 0 blocks
MayRepair geo old (LowerCount n x) blocks = MayRelink geo old n ((old.view.inode n).links - x) blocks
MayRepair geo old (FreeBlock a) blocks = (IsClaimed geo old.view a → ⊥) × IsFalse (old.held a)
MayRepair geo old (FreeNumber n) blocks = (old.view.inode n).mode ≡ 0

-- the record of the number that a repair names
abbrev pub inode_of : View → Repair → Inode
inode_of view (DropInode n) = view.inode n
inode_of view (LowerCount n x) = view.inode n
inode_of view (FreeBlock a) = free_inode
inode_of view (FreeNumber n) = view.inode n

-- and whether it is open
abbrev pub open_of : State → Repair → Bool
open_of old (DropInode n) = is_open old n
open_of old (LowerCount n x) = is_open old n
open_of old (FreeBlock a) = false
open_of old (FreeNumber n) = false

-- what is held after a repair
abbrev pub held_after : Geometry → State → Repair → ℕ → Bool
held_after geo old (DropInode n) = held_if (goes_away 0 (is_open old n)) geo old n
held_after geo old (LowerCount n x) = held_if (goes_away ((old.view.inode n).links - x) (is_open old n)) geo old n
held_after geo old (FreeBlock a) = old.held
held_after geo old (FreeNumber n) = old.held
