-- A rename that no cause refuses is planned by its updates.
use Rattle.std.proofs.Common.{◌≡◌, ℕ, Bool, List, Some, None, eqb, true, false, subst, sym}
use Rattle.model.specs.View.{View}
use Rattle.ordering.specs.Cuts.{Pending, users_view}
use Rattle.frozen.specs.Kept.{Kept, KeepsMetadata, frozen_view}
use Rattle.machine.specs.Below.{first_of}
use Rattle.machine.specs.Command.{Done, Rename}
use Rattle.machine.specs.Paths.{last_part, parts_of}
use Rattle.machine.specs.State.{State}
use Rattle.metadata.specs.Shown.{Shows}
use Rattle.metadata.proofs.ShownLemmas.{shows_metadata}
use Rattle.plans_data.specs.Carried.{Stands}
use Rattle.live_paths.specs.Shown.{IsShownBy}
use Rattle.live_paths.proofs.ShownLemmas.{self_shown}
use Rattle.live_places.specs.declared.choosing.Place.{Place}
use Rattle.live_states.specs.Drafts.{Draft}
use Rattle.live_states.specs.Planned.{IsPlanned}
use Rattle.live_renames.specs.declared.renaming.Ends.{Ends}
use Rattle.live_renames.specs.Moved.{IsMoved, MayEnter}
use Rattle.live_renames.specs.Refused.{AreEnds, late, taken}
use Rattle.live_renames.specs.Renamed.{IsRenamed}
use Rattle.live_renames.proofs.CauseLemmas.{accepted_across, accepted_within}
use Rattle.live_renames.proofs.DoneLemmas.{renamed_done}
use Rattle.live_renames.proofs.MovedLemmas.{moved_done}

-- users see what is kept over the device too
seen : (kept : Kept) (disk : View) (q : List Pending) (old : State) (safe : ℕ → Bool) → Stands kept.geometry disk q old safe → Shows kept old.view → Shows kept (users_view disk q)
seen kept disk q old safe stands shows = subst (λ v. Shows kept v) (sym stands.same) shows

module _ (kept : Kept) (keeps : KeepsMetadata kept) (path other : List ℕ) (ps qs : List (List ℕ)) (e : parts_of path ≡ Some ps) (f : parts_of other ≡ Some qs) (ends : Ends)
    (are : (view : View) → IsShownBy kept view → AreEnds kept.geometry view ps qs ends) (draft : Draft) where
  -- in one directory
  pub within_planned : ends.found.directory ≡ ends.directory → eqb ends.found.directory ends.directory ≡ true → ((view : View) → IsShownBy kept view → taken kept.geometry view qs ≡ None)
      → IsRenamed kept ends.found (last_part qs) draft → IsPlanned kept (Rename path other) Done draft
  within_planned same test free is = record {
    geometry = is.geometry;
    accepted = λ old shows.
        let shown = shows_metadata kept old.view keeps shows in
        accepted_within kept.geometry old path other ps e qs f ends (are old.view shown) test (free old.view shown);
    done = λ disk q old safe stands shows.
        let there = seen kept disk q old safe stands shows in
        renamed_done kept path other ps qs e f ends disk q old safe (are (users_view disk q) (shows_metadata kept (users_view disk q) keeps there)) there draft same is;
  }

  -- between two
  pub across_planned : (place : Place) → (ends.found.directory ≡ ends.directory → ⊥) → eqb ends.found.directory ends.directory ≡ false
      → ((view : View) → IsShownBy kept view → first_of (late kept.geometry view qs ends.found.number ends.directory true) ≡ None)
      → MayEnter kept ends.found.number ends.directory place → IsMoved kept ends qs place draft → IsPlanned kept (Rename path other) Done draft
  across_planned place apart test none may is = record {
    geometry = is.geometry;
    accepted = λ old shows.
        let shown = shows_metadata kept old.view keeps shows in
        accepted_across kept.geometry old path other ps e qs f ends (are old.view shown) test (none old.view shown);
    done = λ disk q old safe stands shows.
        let there = seen kept disk q old safe stands shows in
        let shown = shows_metadata kept (users_view disk q) keeps there in
        moved_done kept keeps path other ps qs e f ends disk q old safe (are (users_view disk q) shown) (are (frozen_view kept) (self_shown kept)).directory there apart draft place
        (may.fits (users_view disk q) shown) is;
  }
