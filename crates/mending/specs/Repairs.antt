-- Repairs of an installed check, one after another.
use Rattle.std.specs.Prelude.{◌≡◌, ◌≤◌, ℕ, zero, suc, false, true, List, [], ◌∷◌, ◌++◌, Ok, Some, None, length}
use Rattle.std.specs.List.{list_all}
use Rattle.findings.specs.Findings.{AreFindings, is_soft}
use Rattle.findings.specs.Report.{repairs_of}
use Rattle.frozen.specs.Kept.{Kept, KeepsMetadata, frozen_view}
use Rattle.fsck.specs.Checked.{CheckedImage, IsChecked}
use Rattle.model.specs.Metadata.{SameMetadata}
use Rattle.model.specs.View.{View}
use Rattle.device.specs.Media.{Held}
use Rattle.machine.specs.Command.{Answer, Check, Command, Done, Install, Release, RepairAt, Reply, Sync}
use Rattle.machine.specs.Standing.{begun, latest_at}
use Rattle.machine.specs.State.{Plan, State}
use Rattle.live_states.specs.Holdings.{Beside}
use Rattle.snapshot.specs.Alive.{Alive, state_of}
use Rattle.snapshot.specs.Asked.{check_of}
use Rattle.snapshot.specs.Goes.{Goes, IsBeside}

-- the repairs of the places below n, the least place first
abbrev pub repairs_below : ℕ → List Command
repairs_below zero = []
repairs_below (suc n) = repairs_below n ++ RepairAt n ∷ []

-- as many replies that each was carried out
abbrev pub all_done : ℕ → List Reply
all_done zero = []
all_done (suc n) = all_done n ++ Ok Done ∷ []

-- A volume went through these repairs, each of which was carried out; what stands beside it stays, whatever it is.
abbrev pub Repairs : {D : Type 0} → Held → List (List ℕ) → Alive D → ℕ → Held → List (List ℕ) → Alive D → Type 0
Repairs held image old n held' image' new = (beside : Beside) → IsBeside image old beside → Goes beside held image old (repairs_below n) (all_done n) beside held' image' new

-- The same, where held_of and image_of tell what its device held and holds.
abbrev pub Repaired : {D : Type 0} → (D → Held) → (D → List (List ℕ)) → Alive D → ℕ → Alive D → Type 0
Repaired held_of image_of old n new = Repairs (held_of old.device) (image_of old.device) old n (held_of new.device) (image_of new.device) new

-- what is asked of a volume with snapshot s once that is checked, and the replies, for a check of n repairs
abbrev pub then_asked : ℕ → ℕ → List Command
then_asked s n = (repairs_below n ++ Release s ∷ []) ++ Sync ∷ []

abbrev pub then_replied : ℕ → Answer → List Reply
then_replied n answer = (all_done n ++ Ok Done ∷ []) ++ Ok answer ∷ []

-- From a volume with this beside it: a check was installed, so many repairs were carried out, snapshot s ended, and all was written.
pub record Mends {D : Type 0} (beside : Beside) (held : Held) (image : List (List ℕ)) (old : Alive D) (s : ℕ) (check : Check) (n : ℕ) (held' : Held) (image' : List (List ℕ)) (new : Alive D) : Type 0 where
  pub beside' : Beside
  pub answer : Answer
  pub goes : Goes beside held image old (Install check ∷ then_asked s n) (Ok Done ∷ then_replied n answer) beside' held' image' new

-- So it was with all repairs of a check, whatever stands beside the volume.
abbrev pub MendsFrozen : {D : Type 0} → (D → Held) → (D → List (List ℕ)) → Alive D → ℕ → CheckedImage → Alive D → Type 0
MendsFrozen held_of image_of old s checked new = (beside : Beside) → IsBeside (image_of old.device) old beside
    → Mends beside (held_of old.device) (image_of old.device) old s (check_of old.kept.geometry checked) (length checked.repairs) (held_of new.device) (image_of new.device) new

-- A plan of so many repairs or more stands, of which those from n on are not done.
pub record IsPlanned (state : State) (n count : ℕ) : Type 0 where
  pub plan : Plan
  pub planned : state.plan ≡ Some plan
  pub enough : count ≤ length plan.repairs
  pub undone : (k : ℕ) → n ≤ k → plan.done k ≡ false

-- So it is of a volume, none of them done, with something beside it.
pub record HasPlan {D : Type 0} (image_of : D → List (List ℕ)) (live : Alive D) (count : ℕ) : Type 0 where
  pub beside : Beside
  pub is : IsBeside (image_of live.device) live beside
  pub is_planned : IsPlanned (state_of (image_of live.device) live beside) 0 count

-- what stands beside a volume whose snapshot s has this image, where it is that of the latest freeze, and no other one stands
abbrev pub one_beside : ℕ → View → Beside
one_beside s view = record { snapshots = begun (record { standing = []; freezes = s }) view }

-- Snapshot s of a volume stands, which is that of the latest freeze, and no plan, and this is a check of the snapshot, which repairs mend.
pub record MayMend {D : Type 0} (image_of : D → List (List ℕ)) (live : Alive D) (s : ℕ) (checked : CheckedImage) : Type 0 where
  pub view : View
  pub is : IsBeside (image_of live.device) live (one_beside s view)
  pub none : (state_of (image_of live.device) live (one_beside s view)).plan ≡ None
  pub same : SameMetadata live.kept.geometry view (check_of live.kept.geometry checked).image
  pub found : AreFindings live.kept.geometry view checked.findings
  pub soft : list_all is_soft checked.findings ≡ true
  pub repairs : checked.repairs ≡ repairs_of checked.findings

-- The snapshot of the latest freeze was checked, which a volume keeps: all metadata of an image of its geometry.
pub record IsSnapshotChecked {D : Type 0} (live : Alive D) (checked : CheckedImage) : Type 0 where
  pub snapshot : Kept
  pub stands : latest_at live.holdings.snapshots.standing live.holdings.snapshots.freezes ≡ Some snapshot
  pub geometry : snapshot.geometry ≡ live.kept.geometry
  pub metadata : KeepsMetadata snapshot
  pub checked_is : checked.frozen ≡ snapshot
  pub is_checked : IsChecked snapshot.geometry (frozen_view snapshot) checked
