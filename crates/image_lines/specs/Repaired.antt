-- What is printed where an image was to be mended, and what stands on the device then.
use Rattle.std.specs.Prelude.{◌≡◌, ℕ, List, [], ◌++◌, Ok, Err, Result, codes, length}
use Rattle.std.specs.Fmt.{decimal}
use Rattle.std.specs.List.{flat_map}
use Rattle.findings.specs.Findings.{AreFindings}
use Rattle.findings.specs.Report.{line, repair_text}
use Rattle.findings.specs.declared.repair.Repair.{Repair}
use Rattle.findings.specs.declared.verdicts.Verdict.{Verdict}
use Rattle.findings.specs.declared.verdicts.Verdict.TheVariants as verdict
use Rattle.frozen.specs.Loading.{LoadRefuses}
use Rattle.fsck.specs.Checked.{CheckedImage, IsChecked}
use Rattle.layout.specs.declared.refusal.Refusal.TheVariants.{Device as DeviceRefusal}
use Rattle.device.specs.Media.{Held}
use Rattle.device.specs.Writes.{HasFailed}
use Rattle.image_changes.specs.GivenBack.{IsJustMounted}
use Rattle.mending.specs.Went.{FailedOnTheWay, Went}
use Rattle.snapshot.specs.Alive.{Alive, disk_of}
use Rattle.model.specs.Image.{IsImage, image_view}
use Rattle.model.specs.Layout.{Geometry}
use Rattle.image_lines.specs.declared.repair.NotRepaired.{NotRepaired}
use Rattle.image_lines.specs.declared.repair.Outcome.{Outcome}
use Rattle.image_lines.specs.declared.repair.Outcome.TheVariants.{Left, Mended}
use Rattle.image_lines.specs.declared.repair.Repaired.{Repaired}
use Rattle.image_lines.specs.Status.{status_of_verdict}

-- a line for each repair, and how many they are
abbrev pub repair_lines : List Repair → List ℕ
repair_lines repairs = flat_map (λ r. line (repair_text r)) repairs

abbrev pub done_text : List Repair → List ℕ
done_text repairs = repair_lines repairs ++ line (codes "repaired " ++ decimal (length repairs))

-- the report, and behind it the repairs where the image is soft; the report alone where nothing is to be mended, or nothing can be
abbrev pub repair_text_of : Verdict → CheckedImage → List ℕ
repair_text_of verdict.Soft checked = checked.report ++ done_text checked.repairs
repair_text_of _ checked = checked.report

-- the device then
abbrev pub device_of : {D : Type 0} → Outcome D → D
device_of (Left device) = device
device_of (Mended volume) = volume.device

-- its volume was mounted
abbrev pub IsMended : {D : Type 0} → Outcome D → Type 0
IsMended (Left device) = ⊥
IsMended (Mended volume) = Unit {0}

-- A device that held this image holds it still, which is not soft; or it holds an image now, which can be loaded, and a check finds nothing on it, and the image was not damaged.
abbrev pub IsAfter : {D : Type 0} → List (List ℕ) → Verdict → Outcome D → List (List ℕ) → Type 0
IsAfter image was (Left device) image' = (image' ≡ image) × (was ≡ verdict.Soft → ⊥)
IsAfter image was (Mended volume) image' = IsImage volume.kept.geometry image' × AreFindings volume.kept.geometry (disk_of image' volume) [] × (was ≡ verdict.Damaged → ⊥)

-- The device held an image; this is what is printed of it, with this status, and what came of the device.
pub record IsRepaired {D : Type 0} (image : List (List ℕ)) (text : List ℕ) (status : ℕ) (outcome : Outcome D) (image' : List (List ℕ)) : Type 0 where
  pub geometry : Geometry
  pub is_image : IsImage geometry image
  pub checked : CheckedImage
  pub is_checked : IsChecked geometry (image_view geometry image) checked
  pub told : text ≡ repair_text_of checked.verdict checked
  pub with_status : status ≡ status_of_verdict checked.verdict
  pub after : IsAfter image checked.verdict outcome image'

-- A device's volume was mounted, and commands that mend led from there to this volume; nothing else was done to it.
pub record MendsMounted {D : Type 0} (honest : D → Type 0) (image_of : D → List (List ℕ)) (held_of : D → Held) (device : D) (now : Alive D) : Type 0 where
  pub mounted : Alive D
  pub is_mounted : IsJustMounted honest image_of held_of device mounted
  pub honest_before : honest now.device → honest mounted.device
  pub went : honest now.device → Went held_of image_of mounted now

-- What came of a device: it was not written, so that it holds and held what it did; or its volume was mounted and mended.
abbrev pub ComesTo : {D : Type 0} → (D → Type 0) → (D → List (List ℕ)) → (D → Held) → D → Outcome D → Type 0
ComesTo honest image_of held_of device (Left after) = (image_of after ≡ image_of device) × (held_of after ≡ held_of device)
ComesTo honest image_of held_of device (Mended volume) = MendsMounted honest image_of held_of device volume

-- what came of a device, whether it was refused or not
abbrev pub outcome_in : {D : Type 0} → Result (Repaired D) (NotRepaired D) → Outcome D
outcome_in (Ok repaired) = repaired.outcome
outcome_in (Err refused) = refused.outcome

-- The device failed while its image was loaded; or its volume was mounted, and it failed in a command that mends.
abbrev pub HasFailedBy : {D : Type 0} → (D → Type 0) → (D → List (List ℕ)) → (D → Held) → (D → ℕ) → D → Outcome D → Type 0
HasFailedBy honest image_of held_of failures_of device (Left after) = HasFailed (failures_of device) (failures_of after)
HasFailedBy {D} honest image_of held_of failures_of device (Mended volume) =
    (mounted : Alive D) × IsJustMounted honest image_of held_of device mounted × FailedOnTheWay honest held_of image_of failures_of mounted volume

-- A device's image was not repaired, and it was refused so: where the device was honest, as one whose image cannot be loaded, for want of memory, or for a fault. The device is blamed only where it failed.
pub record IsNotRepaired {D : Type 0} (honest : D → Type 0) (image_of : D → List (List ℕ)) (held_of : D → Held) (failures_of : D → ℕ) (device : D) (refused : NotRepaired D) : Type 0 where
  pub refuses : honest (device_of refused.outcome) → LoadRefuses (honest (device_of refused.outcome)) (image_of device) refused.cause
  pub cause : refused.cause ≡ DeviceRefusal → HasFailedBy honest image_of held_of failures_of device refused.outcome
