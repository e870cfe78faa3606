-- A command that leaves the image and what is held alone leads from a volume to a volume.
use Rattle.std.proofs.Common.{◌≡◌, ℕ, Bool, true, false, List, [], ◌∷◌, Ok, IsTrue, refl, sym, subst}
use Rattle.model.specs.Layout.{Geometry}
use Rattle.model.specs.View.{View}
use Rattle.ordering.specs.Cuts.{Pending, users_view}
use Rattle.machine.specs.Causes.{Accepts}
use Rattle.machine.specs.Command.{Answer, Command, Create, Mkdir, Link, Unlink, Rmdir, Rename, Open, Close, Read, Write, Truncate, ListNames, Stat, Freeze, SnapRead, Release, Install, RepairAt, Flush, Sync, SetAttributes, ReadAttributes}
use Rattle.machine.specs.State.{State}
use Rattle.machine.specs.Step.{Effect, Step}
use Rattle.courses.specs.Serves.{IsBeginning, IsSafeService, Quietly, Serves, Starts, CarriesOut, is_quiet}
use Rattle.courses.proofs.ServiceLemmas.{service_safe}
use Rattle.frozen.specs.Kept.{Kept}
use Rattle.live_states.specs.Holdings.{Beside, Holdings, AreImagesOf}
use Rattle.live_states.specs.Planned.{AreSeen, IsQuietlyDone, Seen, safe_after}
use Rattle.live_states.specs.Volume.{IsVolume, state_over}
use Rattle.live_states.proofs.Standing.{has}

-- such a command takes no name away
same_safe : (geo : Geometry) (view : View) (command : Command) (safe : ℕ → Bool) → IsTrue (is_quiet command) → safe_after geo view command safe ≡ safe
same_safe geo view (Create p words) safe t = refl
same_safe geo view (Mkdir p words) safe t = refl
same_safe geo view (Link p r) safe t = refl
same_safe geo view (Unlink p) safe t = let bad : false ≡ true = t in cc
same_safe geo view (Rmdir p) safe t = refl
same_safe geo view (Rename p r) safe t = refl
same_safe geo view (Open p) safe t = refl
same_safe geo view (Close h) safe t = refl
same_safe geo view (Read h k) safe t = refl
same_safe geo view (Write h k piece) safe t = refl
same_safe geo view (Truncate h n) safe t = refl
same_safe geo view (SetAttributes i words) safe t = refl
same_safe geo view (ListNames p) safe t = refl
same_safe geo view (Stat p) safe t = refl
same_safe geo view (ReadAttributes i) safe t = refl
same_safe geo view Freeze safe t = refl
same_safe geo view (SnapRead s i k) safe t = refl
same_safe geo view (Release s) safe t = refl
same_safe geo view (Install check) safe t = refl
same_safe geo view (RepairAt k) safe t = refl
same_safe geo view (Flush a) safe t = refl
same_safe geo view Sync safe t = refl

module _ (kept : Kept) (holdings : Holdings) (q : List Pending) (disk : View) (volume : IsVolume kept holdings q disk)
    (seen : List Seen) (command : Command) (answer : Answer) (holdings' : Holdings) (done : IsQuietlyDone kept holdings seen command answer holdings')
    (sees : AreSeen seen (users_view disk q)) where
  abbrev geo : Geometry
  geo = kept.geometry

  module _ (beside : Beside) (images : AreImagesOf holdings.snapshots beside.snapshots) where
    abbrev old : State
    old = state_over disk q holdings beside

    abbrev new : State
    new = state_over disk q holdings' beside

    accepts : Accepts geo old command
    accepts = done.accepted old volume.shows (has disk q holdings beside images)

    effect : Effect geo old command answer new
    effect = done.effect old volume.shows (has disk q holdings beside images) sees

    pub quiet_step : Step geo old command (Ok answer) new
    quiet_step = (accepts, effect)

    serves_same : (safe : ℕ → Bool) → Serves geo disk q old safe command answer disk q new safe []
    serves_same safe = Quietly command answer new done.quiet effect

    pub quiet_serves : (safe : ℕ → Bool) → Serves geo disk q old safe command answer disk q new (safe_after geo (users_view disk q) command safe) []
    quiet_serves safe =
        subst (λ s. Serves geo disk q old safe command answer disk q new s []) (sym (same_safe geo (users_view disk q) command safe done.quiet)) (serves_same safe)

  abbrev nothing_safe : ℕ → Bool
  nothing_safe f = false

  abbrev before : State
  before = old volume.beside volume.snapshots

  abbrev behind : State
  behind = new volume.beside volume.snapshots

  safely : IsSafeService geo volume.mount volume.history volume.cut disk q before nothing_safe disk q behind nothing_safe (command ∷ []) (Ok answer ∷ []) []
  safely = service_safe geo volume.mount volume.history volume.cut disk q before nothing_safe volume.beginning disk q behind nothing_safe (command ∷ []) (Ok answer ∷ []) []
      (CarriesOut command answer disk q behind nothing_safe [] Starts (accepts volume.beside volume.snapshots) (serves_same volume.beside volume.snapshots nothing_safe))

  begins : IsBeginning geo volume.mount safely.lived.h' safely.lived.cut' disk q behind nothing_safe
  begins = record { stands = safely.stands; moment = safely.lived.moment }

  pub quiet_volume : IsVolume kept holdings' q disk
  quiet_volume = record {
    beside = volume.beside;
    snapshots = subst (λ s. AreImagesOf s volume.beside.snapshots) (sym done.snapshots) volume.snapshots;
    mount = volume.mount;
    history = safely.lived.h';
    cut = safely.lived.cut';
    beginning = begins;
    shows = volume.shows;
  }
