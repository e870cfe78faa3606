-- What is printed of an image that was to be mended, and what stands on its device then.
use Rattle.std.proofs.Common.{◌≡◌, ℕ, List, [], ◌++◌, ◌⊎◌, inl, inr, ◌↔◌, Ok, Err, Result, IsErrOf, sym, ap, ◌∙◌, subst}
use Rattle.std.specs.Prelude.{IsOkUnless}
use Rattle.device.specs.Media.{Held}
use Rattle.findings.specs.declared.finding.Finding.{Finding}
use Rattle.findings.specs.declared.verdicts.Verdict.{Verdict}
use Rattle.findings.specs.declared.verdicts.Verdict.TheVariants.{Clean, Soft, Damaged}
use Rattle.findings.specs.Findings.{AreFindings}
use Rattle.findings.specs.Report.{verdict_of}
use Rattle.frozen.specs.Loading.{GivesOut, LoadRefuses}
use Rattle.fsck.specs.Checked.{CheckedImage, IsChecked}
use Rattle.layout.specs.declared.refusal.Refusal.{Refusal}
use Rattle.layout.specs.declared.refusal.Refusal.TheVariants.{Device as DeviceRefusal, NoMemory}
use Rattle.model.specs.Image.{IsImage, image_view}
use Rattle.model.specs.Layout.{Geometry}
use Rattle.model.specs.Rules.{ObeysRules}
use Rattle.model.specs.View.{View}
use Rattle.live_states.specs.Holdings.{IsIdle}
use Rattle.softdep.specs.Queued.{fresh_queue, pending_of}
use Rattle.image_changes.specs.GivenBack.{IsJustMounted}
use Rattle.snapshot.specs.Alive.{Alive, disk_of}
use Rattle.snapshot.specs.Mounting.{IsMountable}
use Rattle.snapshot.proofs.Blaming.{same_refusal}
use Rattle.image_lines.specs.Repaired.{ComesTo, HasFailedBy, IsMended, IsNotRepaired, IsRepaired, device_of, done_text, repair_text_of}
use Rattle.image_lines.specs.declared.repair.NotRepaired.{NotRepaired}
use Rattle.image_lines.specs.declared.repair.Outcome.{Outcome}
use Rattle.image_lines.specs.Status.{status_of_verdict}
use Rattle.image_lines.specs.declared.repair.Outcome.TheVariants.{Left, Mended}

pub soft_text : (v : Verdict) (x : CheckedImage) → v ≡ Soft → repair_text_of v x ≡ x.report ++ done_text x.repairs
soft_text v x is = ap (λ w. repair_text_of w x) is

pub other_text : (v : Verdict) (x : CheckedImage) → (v ≡ Clean) ⊎ (v ≡ Damaged) → repair_text_of v x ≡ x.report
other_text v x (inl is) = ap (λ w. repair_text_of w x) is
other_text v x (inr is) = ap (λ w. repair_text_of w x) is

pub not_soft : (v : Verdict) → (v ≡ Clean) ⊎ (v ≡ Damaged) → v ≡ Soft → ⊥
not_soft v (inl is) soft = let bad : Clean ≡ Soft = sym is ∙ soft in cc
not_soft v (inr is) soft = let bad : Damaged ≡ Soft = sym is ∙ soft in cc

pub not_damaged : (v : Verdict) → (v ≡ Clean) ⊎ (v ≡ Soft) → v ≡ Damaged → ⊥
not_damaged v (inl is) damaged = let bad : Clean ≡ Damaged = sym is ∙ damaged in cc
not_damaged v (inr is) damaged = let bad : Soft ≡ Damaged = sym is ∙ damaged in cc

-- an image that is left
pub left_alone : {D : Type 0} (device : D) (image image' : List (List ℕ)) (text : List ℕ) (status : ℕ) (geo : Geometry) (checked : CheckedImage) → IsImage geo image → IsChecked geo (image_view geo image) checked
    → text ≡ checked.report → status ≡ status_of_verdict checked.verdict → (checked.verdict ≡ Clean) ⊎ (checked.verdict ≡ Damaged) → image' ≡ image → IsRepaired image text status (Left device) image'
left_alone device image image' text status geo checked is_image is_checked told with_status other same = record {
  geometry = geo;
  is_image = is_image;
  checked = checked;
  is_checked = is_checked;
  told = told ∙ sym (other_text checked.verdict checked other);
  with_status = with_status;
  after = (same, not_soft checked.verdict other);
}

-- an image that is mended
pub mended_well : {D : Type 0} (old new : Alive D) (image0 image image' : List (List ℕ)) (text : List ℕ) (status : ℕ) (given checked : CheckedImage)
    → ((geo : Geometry) (view : View) (fs : List Finding) → AreFindings geo view fs → (verdict_of fs ≡ Damaged) ↔ (ObeysRules geo view → ⊥))
    → image0 ≡ image → IsMountable old.kept.geometry image0 → IsChecked old.kept.geometry (disk_of image0 old) checked → given ≡ checked
    → text ≡ repair_text_of given.verdict given → status ≡ status_of_verdict given.verdict → IsImage new.kept.geometry image' → AreFindings new.kept.geometry (disk_of image' new) [] → IsRepaired image text status (Mended new) image'
mended_well old new image0 image image' text status given checked damaged same mountable is_checked is told with_status framed clean =
    subst (λ i. IsRepaired i text status (Mended new) image') same (record {
      geometry = old.kept.geometry;
      is_image = mountable.is_image;
      checked = checked;
      is_checked = is_checked;
      told = told ∙ ap (λ (x : CheckedImage). repair_text_of x.verdict x) is;
      with_status = with_status ∙ ap (λ (x : CheckedImage). status_of_verdict x.verdict) is;
      after = (framed, clean, λ bad. (damaged old.kept.geometry (disk_of image0 old) checked.findings is_checked.findings).0 (sym is_checked.verdict ∙ bad) mountable.obeys);
    })

pub memory_is_no_device : (r : Refusal) → r ≡ NoMemory → r ≡ DeviceRefusal → ⊥
memory_is_no_device r memory device = let bad : NoMemory ≡ DeviceRefusal = sym memory ∙ device in cc

pub blames_none : {T : Type 0} (outcome : Result T Refusal) → IsOkUnless outcome NoMemory → IsErrOf outcome DeviceRefusal → ⊥
blames_none (Ok t) only device = let bad : Ok t ≡ Err DeviceRefusal = device in cc
blames_none (Err r) memory device = memory_is_no_device r memory (same_refusal r DeviceRefusal device)

-- want of memory and a fault refuse to load an image too
pub given_out : (honest : Type 0) (image : List (List ℕ)) (r : Refusal) → GivesOut r → LoadRefuses honest image r
given_out honest image r (inl memory) = subst (LoadRefuses honest image) (sym memory) tt
given_out honest image r (inr device) = subst (LoadRefuses honest image) (sym device) tt

-- ---- a device that holds and held the same

module _ {D : Type 0} (honest : D → Type 0) (image_of : D → List (List ℕ)) (held_of : D → Held) (failures_of : D → ℕ) (device other : D) (same : image_of device ≡ image_of other) (had : held_of device ≡ held_of other) where
  pub still_mounted : (mounted : Alive D) → IsJustMounted honest image_of held_of device mounted → IsJustMounted honest image_of held_of other mounted
  still_mounted mounted is = record {
    image_stays = is.image_stays ∙ same;
    held_stays = is.held_stays ∙ had;
    mountable = λ h. subst (IsMountable mounted.kept.geometry) same (is.mountable h);
    pending = is.pending;
    fresh = is.fresh;
    idle = is.idle;
  }

  pub still_comes : (outcome : Outcome D) → ComesTo honest image_of held_of device outcome → ComesTo honest image_of held_of other outcome
  still_comes (Left after) comes = (comes.0 ∙ same, comes.1 ∙ had)
  still_comes (Mended volume) comes = record { mounted = comes.mounted; is_mounted = still_mounted comes.mounted comes.is_mounted; honest_before = comes.honest_before; went = comes.went }

  still_failed : (outcome : Outcome D) → IsMended outcome → HasFailedBy honest image_of held_of failures_of device outcome → HasFailedBy honest image_of held_of failures_of other outcome
  still_failed (Left after) mended failed = absurd mended
  still_failed (Mended volume) mended failed = (failed.0, still_mounted failed.0 failed.1, failed.2)

  pub still_refused : (refused : NotRepaired D) → (refused.cause ≡ DeviceRefusal → IsMended refused.outcome) → IsNotRepaired honest image_of held_of failures_of device refused → IsNotRepaired honest image_of held_of failures_of other refused
  still_refused refused mended is = record {
    refuses = λ h. subst (λ i. LoadRefuses (honest (device_of refused.outcome)) i refused.cause) same (is.refuses h);
    cause = λ e. still_failed refused.outcome (mended e) (is.cause e);
  }

-- a volume that was made of one just mounted
pub just_mounted : {D : Type 0} (honest : D → Type 0) (image_of : D → List (List ℕ)) (held_of : D → Held) (device : D) (live volume : Alive D) → volume ≡ live → live.device ≡ device → pending_of live.queue ≡ [] → live.queue ≡ fresh_queue live.kept.geometry
    → IsIdle live.holdings → (honest device → IsMountable live.kept.geometry (image_of device)) → IsJustMounted honest image_of held_of device volume
just_mounted honest image_of held_of device live volume is same pending fresh idle mountable = subst (IsJustMounted honest image_of held_of device) (sym is) (record {
  image_stays = ap image_of same;
  held_stays = ap held_of same;
  mountable = λ h. mountable (subst honest same h);
  pending = pending;
  fresh = fresh;
  idle = idle;
})
