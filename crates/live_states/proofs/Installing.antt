-- A check of the snapshot of the latest freeze is installed.
use Rattle.std.proofs.Common.{◌≡◌, ℕ, Bool, false, List, [], Option, Some, None, length, refl, sym, ap, ap₂, ◌∙◌, subst, is_none, is_some, not, replicate}
use Rattle.std.specs.List.{list_all}
use Rattle.std.specs.Option.{option_map, option_or}
use Rattle.findings.specs.Findings.{is_soft}
use Rattle.findings.specs.declared.repair.Repair.{Repair}
use Rattle.layout.specs.declared.refusal.Refusal.TheVariants.{NoSnapshot, PlanNotSoft, PlanStands}
use Rattle.model.specs.View.{View}
use Rattle.machine.specs.Below.{when}
use Rattle.machine.specs.Causes.{Accepts, causes, refusal_of}
use Rattle.machine.specs.Command.{Check, Done, Install}
use Rattle.machine.specs.Snapshot.{Installs}
use Rattle.machine.specs.Standing.{latest_at}
use Rattle.machine.specs.State.{Plan, State, latest}
use Rattle.frozen.specs.Kept.{Kept}
use Rattle.metadata.specs.Shown.{Shows}
use Rattle.live_states.specs.Holdings.{Has, Holdings, IsImageOf, going_on, plan_of}
use Rattle.live_states.specs.Planned.{IsQuietlyDone}
use Rattle.live_states.specs.Snapshots.{IsInstallable, installing}
use Rattle.live_states.proofs.Images.{same_latest}
use Rattle.live_states.proofs.SnapshotEnds.{none_marked}

-- the image of a snapshot that stands
pub record StandsAs (snapshot : Kept) (stood : Option View) : Type 0 where
  pub image : View
  pub is : stood ≡ Some image
  pub shows : Shows snapshot image

stands_as : (kept : Option Kept) (snapshot : Kept) (stood : Option View) → kept ≡ Some snapshot → IsImageOf kept stood → StandsAs snapshot stood
stands_as kept snapshot stood e is = by stood (subst (λ s. IsImageOf s stood) e is)
  where
    by : (o : Option View) → IsImageOf (Some snapshot) o → StandsAs snapshot o
    by None t = absurd t
    by (Some view) t = record { image = view; is = refl; shows = t }

module _ (kept : Kept) (holdings : Holdings) (check : Check) (list : List Repair) (is : IsInstallable kept holdings check list) where
  module _ (old : State) (has : Has holdings old) where
    there : StandsAs is.snapshot (latest old)
    there = stands_as (latest_at holdings.snapshots.standing holdings.snapshots.freezes) is.snapshot (latest old) is.stands (same_latest holdings.snapshots old.snapshots has.snapshots)

    unplanned : old.plan ≡ None
    unplanned = has.plan ∙ ap (option_map plan_of) is.none

    refuses_none : refusal_of kept.geometry old (Install check) ≡ None
    unfolding causes
    refuses_none =
        ap (λ (o : Option View). option_or (when (is_none o) NoSnapshot) (option_or (when (is_some old.plan) PlanStands) (option_or (when (not (list_all is_soft check.findings)) PlanNotSoft) None))) there.is
        ∙ ap (λ (p : Option Plan). option_or (when (is_some p) PlanStands) (option_or (when (not (list_all is_soft check.findings)) PlanNotSoft) None)) unplanned
        ∙ ap (λ b. option_or (when (not b) PlanNotSoft) None) is.soft

    accepted : Accepts kept.geometry old (Install check)
    accepted = (refuses_none, (there.image, there.is, is.belongs there.image there.shows))

    installs : Installs kept.geometry old (going_on old (installing holdings list) old.view)
    installs = record {
      image = there.image;
      stands = there.is;
      findings = check.findings;
      found = is.found there.image there.shows;
      whole =
          ap₂ (λ (o : ℕ → Option ℕ) (h : ℕ → Bool). record old { opened = o; held = h; plan = Some (plan_of (record { list = list; done = replicate (length list) false })) }) (sym has.opened) (sym has.held)
          ∙ ap₂ (λ (l : List Repair) (d : ℕ → Bool). record old { plan = Some (record { repairs = l; done = d }) }) is.repairs (none_marked (length list));
    }

  pub installed_quietly : IsQuietlyDone kept holdings [] (Install check) Done (installing holdings list)
  installed_quietly = record {
    quiet = refl;
    snapshots = refl;
    held = refl;
    accepted = λ old shows has. accepted old has;
    effect = λ old shows has sees. installs old has;
  }
