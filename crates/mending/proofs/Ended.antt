-- What a volume went through that was mended, and what was found of it.
use Rattle.std.proofs.Common.{◌≡◌, ℕ, List, [], length, sym, ap, subst}
use Rattle.findings.specs.Report.{repairs_of}
use Rattle.frozen.specs.Kept.{IsKeptOf, Kept, frozen_view}
use Rattle.fsck.specs.Checked.{CheckedImage, IsChecked}
use Rattle.model.specs.Image.{image_view}
use Rattle.model.specs.View.{View}
use Rattle.device.specs.Media.{Held}
use Rattle.machine.specs.Command.{Check}
use Rattle.machine.specs.Snapshot.{settled}
use Rattle.softdep.specs.Queued.{pending_of}
use Rattle.live_states.specs.Holdings.{Beside, IsIdle, nothing_beside}
use Rattle.snapshot.specs.Alive.{Alive, disk_of, state_of}
use Rattle.snapshot.specs.Asked.{check_of}
use Rattle.snapshot.specs.Goes.{Freezes, IsBeside}
use Rattle.mending.specs.Repairs.{IsSnapshotChecked, Mends, one_beside}
use Rattle.mending.proofs.Joining.{Cycle, Joins, whole_cycle}
use Rattle.mending.proofs.Seen.{image_checked, other_view, settled_disk}

-- it stood alone, went through a cycle with snapshot s of all repairs of a check, and the check is that of its image
pub record Ended {D : Type 0} (held : Held) (image : List (List ℕ)) (old : Alive D) (s : ℕ) (check : Check) (n : ℕ) (checked : CheckedImage) (held' : Held) (image' : List (List ℕ)) (new : Alive D) : Type 0 where
  pub is : IsBeside image old nothing_beside
  pub cycle : Cycle held image old s check n held' image' new
  pub is_settled : IsChecked old.kept.geometry (settled old.kept.geometry (state_of image old nothing_beside)) checked
  pub is_checked : IsChecked old.kept.geometry (disk_of image old) checked
  pub count : length (repairs_of checked.findings) ≡ n

module _ {D : Type 0} (joins : Joins D) (held0 held1 held2 : Held) (image0 image1 image2 : List (List ℕ)) (v0 v1 v2 : Alive D) where
  pub ends : (s : ℕ) (snapshot : Kept) (checked : CheckedImage) → pending_of v0.queue ≡ [] → IsIdle v0.holdings → IsBeside image0 v0 nothing_beside
      → IsChecked v0.kept.geometry (settled v0.kept.geometry (state_of image0 v0 nothing_beside)) checked → Freezes held0 image0 v0 s snapshot held1 image1 v1
      → ((beside : Beside) → IsBeside image1 v1 beside → Mends beside held1 image1 v1 s (check_of v1.kept.geometry checked) (length checked.repairs) held2 image2 v2)
      → Ended held0 image0 v0 s (check_of v1.kept.geometry checked) (length checked.repairs) checked held2 image2 v2
  ends s snapshot checked none idle is found freezes mends = record {
    is = is;
    cycle = whole_cycle joins held0 held1 held2 image0 image1 image2 v0 v1 v2 s snapshot (check_of v1.kept.geometry checked) (length checked.repairs) is freezes
        (mends (one_beside 0 (settled v0.kept.geometry (state_of image0 v0 nothing_beside))) (freezes nothing_beside is).2.is);
    is_settled = found;
    is_checked = subst (λ v. IsChecked v0.kept.geometry v checked) (settled_disk image0 v0 none idle) found;
    count = ap length (sym found.repairs);
  }

  -- the check of the snapshot that began
  pub checked_there : (s : ℕ) (snapshot : Kept) (checked : CheckedImage) → IsBeside image0 v0 nothing_beside → Freezes held0 image0 v0 s snapshot held1 image1 v1 → IsSnapshotChecked v1 checked
      → IsChecked v0.kept.geometry (settled v0.kept.geometry (state_of image0 v0 nothing_beside)) checked
  checked_there s snapshot checked is freezes c =
      let view : View = settled v0.kept.geometry (state_of image0 v0 nothing_beside) in
      let frozen = (freezes nothing_beside is).2 in
      subst (λ geo. IsChecked geo view checked) frozen.geometry (image_checked image1 v1 view checked frozen.is c)

  -- a check of the metadata that were loaded of the image
  pub checked_before : (checked : CheckedImage) → pending_of v0.queue ≡ [] → IsIdle v0.holdings → checked.frozen.geometry ≡ v0.kept.geometry → IsKeptOf checked.frozen image0 → IsChecked checked.frozen.geometry (frozen_view checked.frozen) checked
      → IsChecked v0.kept.geometry (settled v0.kept.geometry (state_of image0 v0 nothing_beside)) checked
  checked_before checked none idle same loaded is =
      subst (λ v. IsChecked v0.kept.geometry v checked) (sym (settled_disk image0 v0 none idle))
      (subst (λ geo. IsChecked geo (image_view geo image0) checked) same (other_view checked.frozen.geometry (frozen_view checked.frozen) (image_view checked.frozen.geometry image0) checked loaded.metadata is))
