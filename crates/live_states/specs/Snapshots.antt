-- What a volume has once a snapshot begins, and once one ends.
use Rattle.std.specs.Prelude.{◌≡◌, ℕ, ◌<◌, ◌&&◌, ◌++◌, Bool, not, true, false, List, [], ◌∷◌, Option, Some, None, length, map, reverse, take, replicate, slice_get, slice_index_or, slice_set, IsTrue}
use Rattle.std.specs.List.{All, list_all}
use Rattle.findings.specs.Findings.{AreFindings, is_soft}
use Rattle.findings.specs.Numbers.{found_below}
use Rattle.findings.specs.Report.{repairs_of}
use Rattle.findings.specs.declared.repair.Repair.{Repair}
use Rattle.findings.specs.declared.repair.Repair.TheVariants.{DropInode, LowerCount, FreeBlock, FreeNumber}
use Rattle.model.specs.Layout.{Geometry, is_data_address, is_number}
use Rattle.model.specs.Metadata.{SameMetadata}
use Rattle.model.specs.View.{View}
use Rattle.machine.specs.Command.{Check}
use Rattle.machine.specs.Standing.{Standing, begun, ended, latest_at, others}
use Rattle.machine.specs.State.{State}
use Rattle.machine.specs.Snapshot.{settled}
use Rattle.frozen.specs.Kept.{Kept}
use Rattle.metadata.specs.Shown.{Shows}
use Rattle.live_states.specs.Holdings.{Has, Holdings, Repairs, held_by, kept_by}

-- Where this is kept, open and held, the image that a check is to see has that metadata.
abbrev pub IsSettled : Kept → Holdings → Kept → Type 0
IsSettled kept holdings snapshot = (old : State) → Shows kept old.view → Has holdings old → Shows snapshot (settled kept.geometry old)

-- what is open and held, with one snapshot more, and without the repairs of an older one
abbrev pub keeping : Holdings → Kept → Holdings
keeping holdings snapshot = record holdings { snapshots = begun holdings.snapshots snapshot; repairs = None }

-- the held blocks that no snapshot but s keeps, the least first
abbrev pub let_go_blocks : Holdings → ℕ → List ℕ
let_go_blocks holdings s = found_below (λ a. held_by holdings a && not (kept_by (others holdings.snapshots.standing s) a)) (λ a. a) (length holdings.held)

-- these blocks are not held any more
abbrev pub unmarked : List ℕ → List Bool → List Bool
unmarked [] held = held
unmarked (a ∷ blocks) held = unmarked blocks (slice_set held a false)

-- what is open, without snapshot s, and with those blocks held that another one keeps
abbrev pub let_go : Holdings → ℕ → Holdings
let_go holdings s = record holdings { held = unmarked (let_go_blocks holdings s) holdings.held; snapshots = ended holdings.snapshots s }

-- the numbers of those that stand, ascending, empty places last
abbrev pub places : List (Standing Kept) → List (Option ℕ)
places standing = take 4 (reverse (map (λ (k : Standing Kept). Some k.number) standing) ++ replicate 4 None)

-- what is open and held, with these repairs, of which none is done
abbrev pub installing : Holdings → List Repair → Holdings
installing holdings list = record holdings { repairs = Some (record { list = list; done = replicate (length list) false }) }

-- A check is of the snapshot of the latest freeze, found what is in it, and nothing but what repairs mend, and these are its repairs; no other check is installed.
pub record IsInstallable (kept : Kept) (holdings : Holdings) (check : Check) (list : List Repair) : Type 0 where
  pub snapshot : Kept
  pub stands : latest_at holdings.snapshots.standing holdings.snapshots.freezes ≡ Some snapshot
  pub none : holdings.repairs ≡ None
  pub soft : list_all is_soft check.findings ≡ true
  pub belongs : (view : View) → Shows snapshot view → SameMetadata kept.geometry view check.image
  pub found : (view : View) → Shows snapshot view → AreFindings kept.geometry view check.findings
  pub repairs : list ≡ repairs_of check.findings

-- a repair names an inode number or a data block of the volume
abbrev pub IsRepairOf : Geometry → Repair → Type 0
IsRepairOf geo (DropInode i) = IsTrue (is_number geo i)
IsRepairOf geo (LowerCount i x) = IsTrue (is_number geo i)
IsRepairOf geo (FreeBlock a) = IsTrue (is_data_address geo a)
IsRepairOf geo (FreeNumber i) = IsTrue (is_number geo i)

-- and so do all that are installed, of each of which it is noted whether it is done
abbrev pub AreRepairsOf : Geometry → Option Repairs → Type 0
AreRepairsOf geo None = Unit {0}
AreRepairsOf geo (Some repairs) = All (IsRepairOf geo) repairs.list × (length repairs.done ≡ length repairs.list)

-- Repair k is r, and is not done.
pub record IsToDo (holdings : Holdings) (k : ℕ) (r : Repair) : Type 0 where
  pub repairs : Repairs
  pub installed : holdings.repairs ≡ Some repairs
  pub there : slice_get repairs.list k ≡ Some r
  pub undone : slice_index_or repairs.done k false ≡ false
  pub within : k < length repairs.done
