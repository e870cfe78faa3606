-- The walk from the root in rounds: what visits make of the reached inodes and of the directories of the next round, and what holds between the rounds.
use Rattle.std.specs.Prelude.{◌≡◌, ℕ, ◌+◌, ◌≤◌, Bool, not, ◌&&◌, List, length, ◌⊎◌, ◌↔◌, IsTrue}
use Rattle.std.specs.BTreeSet.{contains}
use Rattle.std.specs.List.{Contains, flat_map}
use Rattle.std.specs.List.Sorted.{IsStrictlySortedBy}
use Rattle.std.specs.Ordering.{nat_cmp}
use Rattle.directories.specs.Named.{numbers_in}
use Rattle.model.specs.Layout.{Geometry, root}
use Rattle.model.specs.View.{View}
use Rattle.model.specs.Uses.{is_sound_at, is_directory_at}
use Rattle.model.specs.Named.{named_from}
use Rattle.model.specs.Reach.{IsReachable}

-- The visits of these numbers add the sound ones to what is reached, and the directories among what is new to the next round, each once.
pub record Visits (geo : Geometry) (view : View) (numbers reached next reached_after next_after : List ℕ) : Type 0 where
  pub in_order : IsStrictlySortedBy nat_cmp reached → IsStrictlySortedBy nat_cmp reached_after
  pub members : (i : ℕ) → Contains reached_after i ↔ (Contains reached i ⊎ (Contains numbers i × IsTrue (is_sound_at geo view i)))
  pub directories : (d : ℕ) → Contains next_after d ↔ (Contains next d ⊎ (Contains reached_after d × (Contains reached d → ⊥) × IsTrue (is_directory_at geo view d)))
  pub count : length next_after + length reached ≤ length reached_after + length next

-- what the table has at some directories, one after another
abbrev pub numbers_of : List (ℕ × List ℕ) → List ℕ → List ℕ
numbers_of table directories = flat_map (numbers_in table) directories

-- the table has at each sound directory what its slots from 2 on name
abbrev pub HasAllEntries : Geometry → View → List (ℕ × List ℕ) → Type 0
HasAllEntries geo view table = (d : ℕ) → IsTrue (is_directory_at geo view d) → numbers_in table d ≡ named_from geo view 2 d

-- What is reached is sound, and reachable by the table; and of each directory that is reached the entries are followed, or the round is to follow them.
pub record IsWalk (geo : Geometry) (view : View) (table : List (ℕ × List ℕ)) (reached round : List ℕ) : Type 0 where
  pub in_order : IsStrictlySortedBy nat_cmp reached
  pub sound : (i : ℕ) → Contains reached i → IsTrue (is_sound_at geo view i)
  pub reachable : HasAllEntries geo view table → (i : ℕ) → Contains reached i → IsReachable geo view i
  pub at_root : IsTrue (is_directory_at geo view root) → Contains reached root
  pub followed : (d : ℕ) → Contains reached d → IsTrue (is_directory_at geo view d)
      → Contains round d ⊎ ((i : ℕ) → Contains (numbers_in table d) i → IsTrue (is_sound_at geo view i) → Contains reached i)
  pub to_follow : (d : ℕ) → Contains round d → Contains reached d × IsTrue (is_directory_at geo view d)

-- whether an inode is sound and not among the reached ones
abbrev pub is_lost_among : Geometry → View → List ℕ → ℕ → Bool
is_lost_among geo view reached i = is_sound_at geo view i && not (contains nat_cmp (record { keys = reached }) i)
