-- A volume goes on where a snapshot begins.
use Rattle.std.proofs.Common.{◌≡◌, true, false, [], ◌∷◌, Ok, Option, Some, None, IsSome, refl, ap, ◌∙◌, is_none}
use Rattle.std.specs.Option.{option_or}
use Rattle.model.specs.Layout.{Geometry}
use Rattle.model.specs.View.{View}
use Rattle.layout.specs.declared.refusal.Refusal.TheVariants.{TooManySnapshots}
use Rattle.queue_model.specs.Sync.{WritesNone}
use Rattle.machine.specs.Below.{when}
use Rattle.machine.specs.Causes.{Accepts, causes}
use Rattle.machine.specs.Command.{Freeze, Image}
use Rattle.machine.specs.Snapshot.{settled}
use Rattle.machine.specs.Standing.{begun, too_many}
use Rattle.machine.specs.State.{State}
use Rattle.courses.specs.Serves.{CarriesOut, Freezes, IsSafeService, Starts}
use Rattle.courses.proofs.ServiceLemmas.{service_safe}
use Rattle.frozen.specs.Kept.{Kept}
use Rattle.live_states.specs.Holdings.{Beside, Holdings, IsImageOf}
use Rattle.live_states.specs.Snapshots.{IsSettled, keeping}
use Rattle.live_states.specs.Volume.{IsVolume, state_over}
use Rattle.live_states.proofs.Planning.{nothing_safe}
use Rattle.live_states.proofs.Images.{images_begun, same_room}
use Rattle.live_states.proofs.Standing.{has}

-- an image stands beside a volume that keeps its metadata
pub some_image : (snapshot : Option Kept) (o : Option View) → IsSome snapshot → IsImageOf snapshot o → is_none o ≡ false
some_image None o some is = let bad : false ≡ true = some in cc
some_image (Some kept) None some is = absurd is
some_image (Some kept) (Some view) some is = refl

module _ (kept : Kept) (holdings : Holdings) (disk : View) (volume : IsVolume kept holdings [] disk) (room : too_many holdings.snapshots ≡ false) (snapshot : Kept) (settles : IsSettled kept holdings snapshot) where
  abbrev geo : Geometry
  geo = kept.geometry

  abbrev old : State
  old = state_over disk [] holdings volume.beside

  abbrev beside' : Beside
  beside' = record { snapshots = begun volume.beside.snapshots (settled geo old) }

  abbrev new : State
  new = state_over disk [] (keeping holdings snapshot) beside'

  accepts : Accepts geo old Freeze
  unfolding causes
  accepts = (ap (λ b. option_or (when b TooManySnapshots) None) (same_room holdings.snapshots volume.beside.snapshots volume.snapshots ∙ room), tt)

  safely : IsSafeService geo volume.mount volume.history volume.cut disk [] old nothing_safe disk [] new nothing_safe (Freeze ∷ []) (Ok (Image old.snapshots.freezes (settled geo old)) ∷ []) []
  safely = service_safe geo volume.mount volume.history volume.cut disk [] old nothing_safe volume.beginning disk [] new nothing_safe (Freeze ∷ []) (Ok (Image old.snapshots.freezes (settled geo old)) ∷ []) []
      (CarriesOut Freeze (Image old.snapshots.freezes (settled geo old)) disk [] new nothing_safe [] Starts accepts (Freezes [] [] disk WritesNone))

  pub kept_volume : IsVolume kept (keeping holdings snapshot) [] disk
  kept_volume = record {
    beside = beside';
    snapshots = images_begun holdings.snapshots volume.beside.snapshots snapshot (settled geo old) volume.snapshots (settles old volume.shows (has disk [] holdings volume.beside volume.snapshots));
    mount = volume.mount;
    history = safely.lived.h';
    cut = safely.lived.cut';
    beginning = record { stands = safely.stands; moment = safely.lived.moment };
    shows = volume.shows;
  }
