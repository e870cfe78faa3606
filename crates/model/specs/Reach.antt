-- Paths from the root, what they reach, and how many entries name an inode.
use Rattle.std.specs.Prelude.{◌≡◌, ◌≢◌, ℕ, zero, suc, ◌+◌, ◌*◌, ◌≤◌, Bool, ◌==◌, cond, ◌⊎◌, ◌↔◌, IsTrue}
use Rattle.model.specs.Layout.{Geometry, inode_count, root}
use Rattle.model.specs.View.{View}
use Rattle.model.specs.Shape.{most_blocks}
use Rattle.model.specs.Uses.{is_sound_at, is_directory_at}
use Rattle.model.specs.Slots.{slot, number_in, Names}

-- A path of n steps from the root ends at d: a list of sound directories, of which each next one is named by a good slot from 2 on of the one before.
abbrev pub Path : Geometry → View → ℕ → ℕ → Type 0
Path geo view zero d = (d ≡ root) × IsTrue (is_directory_at geo view root)
Path geo view (suc n) d = (parent s : ℕ) × Path geo view n parent × (2 ≤ s) × Names geo view parent s d × IsTrue (is_directory_at geo view d)

-- a path ends at this directory
abbrev pub IsReachableDirectory : Geometry → View → ℕ → Type 0
IsReachableDirectory geo view d = (n : ℕ) × Path geo view n d

-- slot s from 2 on of the reachable directory d is good and names i
pub record IsEntry (geo : Geometry) (view : View) (d s i : ℕ) : Type 0 where
  pub reachable : IsReachableDirectory geo view d
  pub after_dots : 2 ≤ s
  pub names : Names geo view d s i

-- Slot 1 of d is good and names the root for the root, and else a reachable directory with an entry that names d.
abbrev pub HasParent : Geometry → View → ℕ → Type 0
HasParent geo view d = ((d ≡ root) × Names geo view d 1 root) ⊎ ((d ≢ root) × (e : ℕ) × (s : ℕ) × Names geo view d 1 e × IsEntry geo view e s d)

-- Reachable are the ends of paths, and each sound inode that an entry names.
abbrev pub IsReachable : Geometry → View → ℕ → Type 0
IsReachable geo view i = IsReachableDirectory geo view i ⊎ (IsTrue (is_sound_at geo view i) × (d : ℕ) × (s : ℕ) × IsEntry geo view d s i)

-- the sum of f over the numbers below n
unfoldable pub sum_below : ℕ → (ℕ → ℕ) → ℕ
sum_below zero f = 0
sum_below (suc n) f = sum_below n f + f n

-- how many slots a directory has at most
abbrev pub slot_count : Geometry → ℕ
slot_count geo = 16 * most_blocks geo

-- 1 where slot s of d names i, else 0
abbrev pub names_once : Geometry → View → ℕ → ℕ → ℕ → ℕ
names_once geo view i d s = cond (number_in (slot geo view d s) == i) 1 0

-- how many good slots of d name i, dots among them
abbrev pub entries_in : Geometry → View → ℕ → ℕ → ℕ
entries_in geo view i d = sum_below (slot_count geo) (names_once geo view i d)

-- how many good slots of the directories in a set name i
abbrev pub entries_of : Geometry → View → (ℕ → Bool) → ℕ → ℕ
entries_of geo view set i = sum_below (inode_count geo) (λ d. cond (set d) (entries_in geo view i d) 0)

-- the set of the reachable directories
abbrev pub IsReachableSet : Geometry → View → (ℕ → Bool) → Type 0
IsReachableSet geo view set = (d : ℕ) → IsTrue (set d) ↔ IsReachableDirectory geo view d

-- n good slots of reachable directories name i, dots among them, where i is a number from 1 on (a slot that names none has number 0)
abbrev pub HasEntries : Geometry → View → ℕ → ℕ → Type 0
HasEntries geo view i n = (set : ℕ → Bool) × IsReachableSet geo view set × (n ≡ entries_of geo view set i)
