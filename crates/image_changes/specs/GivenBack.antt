-- What is given back of a device whose volume was not mounted, or not written to the end.
use Rattle.std.specs.Prelude.{◌≡◌, ◌⊎◌, ℕ, List, []}
use Rattle.layout.specs.declared.refusal.Refusal.{Refusal}
use Rattle.layout.specs.declared.refusal.Refusal.TheVariants.{Device as DeviceRefusal}
use Rattle.device.specs.Media.{Held}
use Rattle.device.specs.Writes.{HasFailed}
use Rattle.frozen.specs.Loading.{GivesOut}
use Rattle.rules.specs.Loading.{LoadSoundRefuses}
use Rattle.snapshot.specs.Alive.{Alive}
use Rattle.snapshot.specs.Mounting.{IsMountable}
use Rattle.live_states.specs.Holdings.{IsIdle}
use Rattle.softdep.specs.Queued.{fresh_queue, pending_of}
use Rattle.snapshot.specs.declared.command.Command.{Command}
use Rattle.image_changes.specs.Refused.{FailedToWrite, IsNotWritten}
use Rattle.image_changes.specs.declared.mounted.NotChanged.{NotChanged}
use Rattle.image_changes.specs.declared.mounted.NotChanged.TheVariants.{NotMounted, NotWritten}
use Rattle.image_changes.specs.declared.mounted.Refused.{Refused}

-- A device is given back whose mount was refused so: it stayed as it was in all that it holds and held.
pub record IsGivenBack {D : Type 0} (honest : D → Type 0) (image_of : D → List (List ℕ)) (held_of : D → Held) (failures_of : D → ℕ) (device : D) (refused : Refused D) : Type 0 where
  pub image_stays : image_of refused.device ≡ image_of device
  pub held_stays : held_of refused.device ≡ held_of device
  pub refuses : LoadSoundRefuses (honest refused.device) (image_of device) refused.cause
  pub cause : refused.cause ≡ DeviceRefusal → HasFailed (failures_of device) (failures_of refused.device)

-- The volume of a device, as it is just mounted: the device holds and held what it did.
pub record IsJustMounted {D : Type 0} (honest : D → Type 0) (image_of : D → List (List ℕ)) (held_of : D → Held) (device : D) (mounted : Alive D) : Type 0 where
  pub image_stays : image_of mounted.device ≡ image_of device
  pub held_stays : held_of mounted.device ≡ held_of device
  pub mountable : honest mounted.device → IsMountable mounted.kept.geometry (image_of device)
  pub pending : pending_of mounted.queue ≡ []
  -- nothing was issued: so it is sound on its medium, where nothing of that is loose
  pub fresh : mounted.queue ≡ fresh_queue mounted.kept.geometry
  pub idle : IsIdle mounted.holdings

-- The volume of a device was mounted, and these commands were to be carried out on it: nothing was done, or each up to one that was refused, and then a sync was refused so.
pub record IsLeftUnwritten {D : Type 0} (honest : D → Type 0) (image_of : D → List (List ℕ)) (held_of : D → Held) (failures_of : D → ℕ) (device : D) (commands : List Command) (r : Refusal) (now : Alive D) : Type 0 where
  pub mounted : Alive D
  pub is_mounted : IsJustMounted honest image_of held_of device mounted
  pub honest_before : honest now.device → honest mounted.device
  pub went : honest now.device → (now ≡ mounted) ⊎ IsNotWritten held_of image_of mounted commands r now
  pub gives_out : honest now.device → GivesOut r
  pub cause : r ≡ DeviceRefusal → FailedToWrite honest held_of image_of failures_of mounted commands now

-- The volume of a device was not mounted, or these commands were not all written.
abbrev pub IsNotChanged : {D : Type 0} → (D → Type 0) → (D → List (List ℕ)) → (D → Held) → (D → ℕ) → D → List Command → NotChanged D → Type 0
IsNotChanged honest image_of held_of failures_of device commands (NotMounted refused) = IsGivenBack honest image_of held_of failures_of device refused
IsNotChanged honest image_of held_of failures_of device commands (NotWritten volume r) = IsLeftUnwritten honest image_of held_of failures_of device commands r volume

-- why
abbrev pub cause_of : {D : Type 0} → NotChanged D → Refusal
cause_of (NotMounted refused) = refused.cause
cause_of (NotWritten volume r) = r
