-- What a mounted volume is between two calls.
use Rattle.std.specs.Prelude.{◌≡◌, ℕ, Bool, false, List, length}
use Rattle.model.specs.Image.{image_view}
use Rattle.model.specs.Layout.{block_count}
use Rattle.model.specs.View.{View}
use Rattle.ordering.specs.Cuts.{Pending, users_view}
use Rattle.queue_model.specs.Files.{Written}
use Rattle.machine.specs.State.{State}
use Rattle.courses.specs.Serves.{IsBeginning}
use Rattle.frozen.specs.Kept.{Kept, KeepsMetadata}
use Rattle.metadata.specs.Shown.{Shows}
use Rattle.live_states.specs.Holdings.{Beside, Holdings, AreImagesOf, held_by, opened_by, plan_by}

-- the state of a volume, as its users see it over a device with these updates pending
abbrev pub state_over : View → List Pending → Holdings → Beside → State
state_over disk q holdings beside =
    record { view = users_view disk q; opened = opened_by holdings; held = held_by holdings; snapshots = beside.snapshots; plan = plan_by holdings }

-- Over this device, with these updates pending, stands a volume that was mounted once and obeyed the rules then; this is its metadata in memory, and this is what it has besides.
pub record IsVolume (kept : Kept) (holdings : Holdings) (q : List Pending) (disk : View) : Type 0 where
  pub beside : Beside
  pub snapshots : AreImagesOf holdings.snapshots beside.snapshots
  pub mount : View
  pub history : List Written
  pub cut : List Bool
  pub beginning : IsBeginning kept.geometry mount history cut disk q (state_over disk q holdings beside) (λ f. false)
  pub shows : Shows kept (users_view disk q)

-- A volume whose device may not have been honest: the metadata in memory is that of some volume, and that of the device where it is honest.
pub record IsAlive (honest : Type 0) (image : List (List ℕ)) (q : List Pending) (kept : Kept) (holdings : Holdings) : Type 0 where
  pub count : length image ≡ block_count kept.geometry
  pub keeps : KeepsMetadata kept
  pub disk : View
  pub some : IsVolume kept holdings q disk
  pub true : honest → IsVolume kept holdings q (image_view kept.geometry image)
