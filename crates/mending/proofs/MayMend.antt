-- A volume that was just mounted may be mended once it is frozen and checked.
use Rattle.std.proofs.Common.{◌≡◌, ◌↔◌, ℕ, true, List, [], ◌∷◌, length, Ok, Option, Some, None, inl, inr, refl, sym, ap, ◌∙◌, subst, arith}
use Rattle.std.specs.Prelude.{◌==◌, if◌then◌else◌, IsSome}
use Rattle.std.specs.List.{list_all}
use Rattle.std.proofs.lemmas.Bool.{cases_Bool, cond-false, eqb-true}
use Rattle.findings.specs.Findings.{AreFindings, is_soft}
use Rattle.findings.specs.Report.{verdict_of}
use Rattle.findings.specs.declared.finding.Finding.{Finding}
use Rattle.findings.specs.declared.verdicts.Verdict.TheVariants.{Clean, Damaged, Soft}
use Rattle.model.specs.Image.{image_view}
use Rattle.model.specs.Layout.{Geometry}
use Rattle.model.specs.Metadata.{SameMetadata}
use Rattle.model.specs.Rules.{ObeysRules}
use Rattle.model.specs.View.{View}
use Rattle.device.specs.Media.{Held}
use Rattle.frozen.specs.Kept.{IsKeptOf, Kept, frozen_view}
use Rattle.fsck.specs.Checked.{CheckedImage, IsChecked}
use Rattle.metadata.proofs.ShownLemmas.{shows_metadata}
use Rattle.metadata.specs.Shown.{Shows}
use Rattle.machine.specs.Command.{Answer, Freeze}
use Rattle.machine.specs.Snapshot.{settled}
use Rattle.machine.specs.Standing.{Snapshots, latest_at}
use Rattle.machine.specs.State.{State}
use Rattle.machine.specs.Step.{Run}
use Rattle.softdep.specs.Queued.{pending_of}
use Rattle.live_states.proofs.Images.{same_latest}
use Rattle.live_states.specs.Holdings.{IsIdle, IsImageOf, nothing_beside}
use Rattle.snapshot.specs.Alive.{Alive, state_of}
use Rattle.snapshot.specs.Asked.{check_of}
use Rattle.snapshot.specs.Goes.{Freezes, IsBeside}
use Rattle.snapshot.specs.Mounting.{IsMountable}
use Rattle.snapshot.proofs.Alike.{image_where_same, other_metadata}
use Rattle.mending.specs.Repairs.{IsSnapshotChecked, MayMend, one_beside}
use Rattle.mending.proofs.Seen.{settled_disk}

-- where nothing is found, all that is found is soft
none_is_soft : (fs : List Finding) → (length fs == 0) ≡ true → list_all is_soft fs ≡ true
none_is_soft [] e = refl
none_is_soft (f ∷ fs) e = absurd (omega (arith, eqb-true (length (f ∷ fs)) 0 e))

-- what is not damaged is soft
pub all_soft : (fs : List Finding) → (verdict_of fs ≡ Damaged → ⊥) → list_all is_soft fs ≡ true
all_soft fs not = elim (cases_Bool (list_all is_soft fs)) [
  | inl soft ↦ soft
  | inr hard ↦ elim (cases_Bool (length fs == 0)) [
    | inl none ↦ none_is_soft fs none
    | inr some ↦ absurd (not (cond-false (length fs == 0) Clean (if list_all is_soft fs then Soft else Damaged) some ∙ cond-false (list_all is_soft fs) Soft Damaged hard))
  ]
]

-- a first snapshot that has an image stands
some_snapshot : (kept : Option Kept) (view : View) → IsImageOf kept (Some view) → IsSome kept
some_snapshot (Some kept) view of = refl
some_snapshot None view of = absurd of

pub some_latest : {D : Type 0} (image : List (List ℕ)) (live : Alive D) (view : View) → IsBeside image live (one_beside 0 view) → IsSome (latest_at live.holdings.snapshots.standing live.holdings.snapshots.freezes)
some_latest image live view is =
    some_snapshot (latest_at live.holdings.snapshots.standing live.holdings.snapshots.freezes) view (same_latest live.holdings.snapshots (one_beside 0 view).snapshots is.belongs)

-- what was checked is that of the latest freeze
pub checked_latest : {D : Type 0} (live : Alive D) (checked : CheckedImage) → IsSnapshotChecked live checked → latest_at live.holdings.snapshots.standing live.holdings.snapshots.freezes ≡ Some checked.frozen
checked_latest live checked c = c.stands ∙ ap Some (sym c.checked_is)

-- no plan stands once a snapshot began
no_plan : (geo : Geometry) (old new : State) (answer : Answer) → Run geo old (Freeze ∷ []) (Ok answer ∷ []) new → new.plan ≡ None
no_plan geo old new answer run = ap (λ (s : State). s.plan) (run.2 ∙ run.1.1.1)

-- that a verdict is damaged tells of a broken rule
abbrev pub Damages : Type 0
Damages = (geo : Geometry) (view : View) (fs : List Finding) → AreFindings geo view fs → (verdict_of fs ≡ Damaged) ↔ (ObeysRules geo view → ⊥)

module _ {D : Type 0} (image_of : D → List (List ℕ)) (damages : Damages) (held0 held1 : Held) (image0 : List (List ℕ)) (v0 v1 : Alive D) (s : ℕ) (snapshot : Kept) (checked : CheckedImage) (none : pending_of v0.queue ≡ []) (idle : IsIdle v0.holdings)
    (mountable : IsMountable v0.kept.geometry image0) (is : IsBeside image0 v0 nothing_beside) (freezes : Freezes held0 image0 v0 s snapshot held1 (image_of v1.device) v1)
    (found : IsChecked v0.kept.geometry (settled v0.kept.geometry (state_of image0 v0 nothing_beside)) checked) where
  abbrev pub view : View
  view = settled v0.kept.geometry (state_of image0 v0 nothing_beside)

  soft : list_all is_soft checked.findings ≡ true
  soft = all_soft checked.findings (λ bad. (damages v0.kept.geometry view checked.findings found.findings).0 bad (subst (ObeysRules v0.kept.geometry) (sym (settled_disk image0 v0 none idle)) mountable.obeys))

  -- the number of a first snapshot
  is_first : s ≡ 0
  is_first = (freezes nothing_beside is).0 ∙ ap (λ (x : Snapshots Kept). x.freezes) idle.snapshots

  pub may_mend : SameMetadata v1.kept.geometry view (check_of v1.kept.geometry checked).image → MayMend image_of v1 s checked
  may_mend same =
      let frozen = (freezes nothing_beside is).2 in
      subst (λ n. MayMend image_of v1 n checked) (sym is_first) (record {
        view = view;
        is = frozen.is;
        none = no_plan v0.kept.geometry (state_of image0 v0 nothing_beside) (state_of (image_of v1.device) v1 (one_beside 0 view)) _ frozen.run;
        same = same;
        found = subst (λ geo. AreFindings geo view checked.findings) (sym frozen.geometry) found.findings;
        soft = soft;
        repairs = found.repairs;
      })

  -- by a check of the snapshot
  pub of_snapshot : IsSnapshotChecked v1 checked → SameMetadata v1.kept.geometry view (check_of v1.kept.geometry checked).image
  of_snapshot c =
      let frozen = (freezes nothing_beside is).2 in
      let shows : Shows c.snapshot view = subst (λ kept. IsImageOf kept (Some view)) c.stands (same_latest v1.holdings.snapshots (one_beside 0 view).snapshots frozen.is.belongs) in
      let same : SameMetadata v1.kept.geometry (frozen_view c.snapshot) view = subst (λ geo. SameMetadata geo (frozen_view c.snapshot) view) c.geometry (shows_metadata c.snapshot view c.metadata shows) in
      let here = ap (λ (k : Kept). k.geometry) c.checked_is ∙ c.geometry in
      subst (SameMetadata v1.kept.geometry view) (sym (image_where_same v1.kept.geometry checked here ∙ ap frozen_view c.checked_is))
      (other_metadata v1.kept.geometry (frozen_view c.snapshot) view same)

  -- by a check of what was loaded before
  pub of_loaded : checked.frozen.geometry ≡ v0.kept.geometry → IsKeptOf checked.frozen image0 → SameMetadata v1.kept.geometry view (check_of v1.kept.geometry checked).image
  of_loaded same loaded =
      let frozen = (freezes nothing_beside is).2 in
      let geo = v1.kept.geometry in
      let here : checked.frozen.geometry ≡ geo = same ∙ sym frozen.geometry in
      let disk : view ≡ image_view v0.kept.geometry image0 = settled_disk image0 v0 none idle in
      let of_disk : SameMetadata geo (frozen_view checked.frozen) view =
      subst (SameMetadata geo (frozen_view checked.frozen)) (sym disk) (subst (λ g. SameMetadata geo (frozen_view checked.frozen) (image_view g image0)) same (subst (λ g. SameMetadata g (frozen_view checked.frozen) (image_view checked.frozen.geometry image0)) here loaded.metadata)) in
      subst (SameMetadata geo view) (sym (image_where_same geo checked here)) (other_metadata geo (frozen_view checked.frozen) view of_disk)
