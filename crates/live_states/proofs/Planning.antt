-- The updates of a planned command lead from a volume to a volume.
use Rattle.std.proofs.Common.{◌≡◌, ℕ, Bool, false, List, [], ◌∷◌, Ok, ◌⊎◌, refl, sym, subst}
use Rattle.model.specs.Layout.{Geometry}
use Rattle.model.specs.View.{View}
use Rattle.ordering.specs.Cuts.{Pending, users_view}
use Rattle.machine.specs.Causes.{Accepts}
use Rattle.machine.specs.Command.{Answer, Command, Create, Mkdir, Link, Unlink, Rmdir, Rename, Open, Close, Read, Write, Truncate, ListNames, Stat, Freeze, SnapRead, Release, Install, RepairAt, Flush, Sync, SetAttributes, ReadAttributes}
use Rattle.machine.specs.State.{State}
use Rattle.machine.specs.Step.{Step}
use Rattle.plans_data.specs.Carried.{Stands}
use Rattle.courses.specs.Done.{IsDoneBy, LeavesTheRest}
use Rattle.courses.specs.Serves.{IsBeginning, IsSafeService, Serves, ByPlan}
use Rattle.courses.proofs.Leaving.{others_leave}
use Rattle.courses.proofs.ServiceLemmas.{plan_safe}
use Rattle.frozen.specs.Kept.{Kept, KeepsMetadata}
use Rattle.metadata.specs.Shown.{Shows}
use Rattle.metadata.specs.declared.staged.Staged.{Staged}
use Rattle.metadata.specs.Staged.{IsStaged, after, changes}
use Rattle.kept_claims.specs.Claims.{IsMetadataClaim, GivesBytes}
use Rattle.kept_claims.proofs.Commands.{plans_give}
use Rattle.live_states.specs.Drafts.{Draft, over}
use Rattle.live_states.specs.Holdings.{Beside, Has, Holdings, AreImagesOf}
use Rattle.live_states.specs.Planned.{AreSeen, IsPlannedFor, IsPlannedWith, Seen, safe_after}
use Rattle.live_states.specs.Volume.{IsVolume, state_over}
use Rattle.live_states.proofs.Staging.{keeps' as keeps_staged, over_after, same, shows'}
use Rattle.live_states.proofs.Standing.{has}

-- ---- files that no stop loses

abbrev pub nothing_safe : ℕ → Bool
nothing_safe f = false

pub still_nothing : (geo : Geometry) (view : View) (command : Command) → safe_after geo view command nothing_safe ≡ nothing_safe
still_nothing geo view (Create p words) = refl
still_nothing geo view (Mkdir p words) = refl
still_nothing geo view (Link p r) = refl
still_nothing geo view (Unlink p) = refl
still_nothing geo view (Rmdir p) = refl
still_nothing geo view (Rename p r) = refl
still_nothing geo view (Open p) = refl
still_nothing geo view (Close h) = refl
still_nothing geo view (Read h k) = refl
still_nothing geo view (Write h k piece) = refl
still_nothing geo view (Truncate h n) = refl
still_nothing geo view (SetAttributes i words) = refl
still_nothing geo view (ListNames p) = refl
still_nothing geo view (Stat p) = refl
still_nothing geo view (ReadAttributes i) = refl
still_nothing geo view Freeze = refl
still_nothing geo view (SnapRead s i k) = refl
still_nothing geo view (Release s) = refl
still_nothing geo view (Install check) = refl
still_nothing geo view (RepairAt k) = refl
still_nothing geo view (Flush a) = refl
still_nothing geo view Sync = refl

module _ (kept : Kept) (holdings : Holdings) (q : List Pending) (disk : View) (volume : IsVolume kept holdings q disk)
    (seen : List Seen) (command : Command) (answer : Answer) (draft : Draft) (holdings' : Holdings) (planned : IsPlannedWith kept holdings seen command answer draft holdings')
    (sees : AreSeen seen (users_view disk q)) where
  abbrev geo : Geometry
  geo = kept.geometry

  abbrev q' : List Pending
  q' = over q draft.updates

  module _ (beside : Beside) (images : AreImagesOf holdings.snapshots beside.snapshots) where
    abbrev old : State
    old = state_over disk q holdings beside

    abbrev new : State
    new = state_over disk q' holdings' beside

    accepts : Accepts geo old command
    accepts = planned.accepted old volume.shows (has disk q holdings beside images)

    abbrev done : (safe : ℕ → Bool) → Stands geo disk q old safe → IsDoneBy geo disk q old safe command answer draft.file q' new (safe_after geo (users_view disk q) command safe)
    done safe stands = planned.done disk q old safe stands volume.shows (has disk q holdings beside images) sees

    pub serves : (safe : ℕ → Bool) (stands : Stands geo disk q old safe) → LeavesTheRest (done safe stands) → Serves geo disk q old safe command answer disk q' new (safe_after geo (users_view disk q) command safe) []
    serves safe stands rest = ByPlan command answer draft.file q' new (safe_after geo (users_view disk q) command safe) (done safe stands) rest

    abbrev safe' : ℕ → Bool
    safe' = safe_after geo (users_view disk q) command nothing_safe

    module _ (stands : Stands geo disk q old nothing_safe) where
      safely : IsSafeService geo volume.mount volume.history volume.cut disk q old nothing_safe disk q' new safe' (command ∷ []) (Ok answer ∷ []) []
      safely = plan_safe geo volume.mount volume.history volume.cut disk q old nothing_safe (record { stands = stands; moment = volume.beginning.moment }) command answer draft.file q' new safe' accepts
          (done nothing_safe stands)

      pub step : Step geo old command (Ok answer) new
      step = let run = safely.run in subst (Step geo old command (Ok answer)) (sym run.2) run.1

  abbrev since : IsSafeService geo volume.mount volume.history volume.cut disk q (old volume.beside volume.snapshots) nothing_safe disk q' (new volume.beside volume.snapshots)
      (safe' volume.beside volume.snapshots) (command ∷ []) (Ok answer ∷ []) []
  since = safely volume.beside volume.snapshots volume.beginning.stands

  begins : IsBeginning geo volume.mount since.lived.h' since.lived.cut' disk q' (new volume.beside volume.snapshots) nothing_safe
  begins = subst (IsBeginning geo volume.mount since.lived.h' since.lived.cut' disk q' (new volume.beside volume.snapshots)) (still_nothing geo (users_view disk q) command)
      (record { stands = since.stands; moment = since.lived.moment })

  -- what claims on metadata there are then
  claimed_before : (i k a : ℕ) → IsMetadataClaim geo (users_view disk q') i k a → IsMetadataClaim geo (users_view disk q) i k a ⊎ GivesBytes (over [] draft.updates) a
  claimed_before =
      plans_give geo disk q (old volume.beside volume.snapshots) nothing_safe volume.beginning.stands command answer draft.file q' (new volume.beside volume.snapshots)
      (safe_after geo (users_view disk q) command nothing_safe) (accepts volume.beside volume.snapshots) (done volume.beside volume.snapshots nothing_safe volume.beginning.stands) (over [] draft.updates) (over_after q draft.updates)

  module _ (keeps : KeepsMetadata kept) (staged : Staged) (is : IsStaged kept (changes draft.updates) staged) where
    pub keeps' : KeepsMetadata (after kept staged)
    keeps' = keeps_staged kept q disk draft.updates keeps volume.shows claimed_before staged is

    pub volume' : IsVolume (after kept staged) holdings' q' disk
    volume' = record {
      beside = volume.beside;
      snapshots = subst (λ s. AreImagesOf s volume.beside.snapshots) (sym planned.snapshots) volume.snapshots;
      mount = volume.mount;
      history = since.lived.h';
      cut = since.lived.cut';
      beginning = subst (λ g. IsBeginning g volume.mount since.lived.h' since.lived.cut' disk q' (new volume.beside volume.snapshots) nothing_safe)
          (sym (same kept q disk draft.updates keeps volume.shows claimed_before staged is)) begins;
      shows = shows' kept q disk draft.updates keeps volume.shows claimed_before staged is;
    }

-- ---- a user's command

-- what is planned for one is planned
abbrev pub planned_with : (kept : Kept) (holdings : Holdings) (seen : List Seen) (command : Command) (answer : Answer) (draft : Draft) (holdings' : Holdings) → IsPlannedFor kept holdings seen command answer draft holdings'
    → IsPlannedWith kept holdings seen command answer draft holdings'
planned_with kept holdings seen (Write h k piece) answer draft holdings' planned = planned.planned
planned_with kept holdings seen _ answer draft holdings' planned = planned

-- and leaves what stands behind a piece
pub leaves : (kept : Kept) (holdings : Holdings) (seen : List Seen) (command : Command) (answer : Answer) (draft : Draft) (holdings' : Holdings) (planned : IsPlannedFor kept holdings seen command answer draft holdings')
    (disk : View) (q : List Pending) (old : State) (safe : ℕ → Bool) (stands : Stands kept.geometry disk q old safe) (shows : Shows kept old.view) (has : Has holdings old) (sees : AreSeen seen old.view)
    → LeavesTheRest ((planned_with kept holdings seen command answer draft holdings' planned).done disk q old safe stands shows has sees)
leaves kept holdings seen (Write h k piece) answer draft holdings' planned disk q old safe stands shows has sees = planned.rest disk q old safe stands shows has sees
leaves kept holdings seen _ answer draft holdings' planned disk q old safe stands shows has sees =
    others_leave kept.geometry disk q old safe _ answer draft.file _ _ _ (planned.done disk q old safe stands shows has sees) refl

module _ (kept : Kept) (holdings : Holdings) (q : List Pending) (disk : View) (volume : IsVolume kept holdings q disk)
    (seen : List Seen) (command : Command) (answer : Answer) (draft : Draft) (holdings' : Holdings) (planned : IsPlannedFor kept holdings seen command answer draft holdings')
    (sees : AreSeen seen (users_view disk q)) (beside : Beside) (images : AreImagesOf holdings.snapshots beside.snapshots) where
  abbrev plain : IsPlannedWith kept holdings seen command answer draft holdings'
  plain = planned_with kept holdings seen command answer draft holdings' planned

  abbrev before : State
  before = state_over disk q holdings beside

  abbrev behind : State
  behind = state_over disk (over q draft.updates) holdings' beside

  pub steps : Stands kept.geometry disk q before nothing_safe → Step kept.geometry before command (Ok answer) behind
  steps stands = step kept holdings q disk volume seen command answer draft holdings' plain sees beside images stands

  pub is_served : (safe : ℕ → Bool) → Stands kept.geometry disk q before safe
      → Serves kept.geometry disk q before safe command answer disk (over q draft.updates) behind (safe_after kept.geometry (users_view disk q) command safe) []
  is_served safe stands =
      serves kept holdings q disk volume seen command answer draft holdings' plain sees beside images safe stands
      (leaves kept holdings seen command answer draft holdings' planned disk q before safe stands volume.shows (has disk q holdings beside images) sees)
