-- What a check of the snapshot sees, and what is found of it.
use Rattle.std.proofs.Common.{◌≡◌, ℕ, Bool, false, not, ◌&&◌, eqb, ltb, List, [], inl, inr, refl, sym, ap, ap₂, ◌∙◌, subst, ◌∷◌, None, Some, Option}
use Rattle.std.proofs.lemmas.Bool.{cases_Bool, cond-true, cond-false}
use Rattle.std.specs.Option.{option_map_or}
use mathlib.Core.Path.{fun_ext}
use Rattle.findings.proofs.SameFindings.{same_findings}
use Rattle.frozen.specs.Kept.{Kept, frozen_view}
use Rattle.fsck.specs.Checked.{CheckedImage, IsChecked}
use Rattle.metadata.proofs.ShownLemmas.{shows_metadata}
use Rattle.metadata.specs.Shown.{Shows}
use Rattle.model.specs.Layout.{Geometry, inode_count}
use Rattle.model.specs.Metadata.{SameMetadata}
use Rattle.model.specs.View.{View}
use Rattle.machine.proofs.Decisions.{any_none}
use Rattle.machine.specs.Below.{any_below}
use Rattle.machine.proofs.Tests.{and_true}
use Rattle.machine.specs.Below.{any_below}
use Rattle.machine.specs.Cells.{claims}
use Rattle.machine.specs.Snapshot.{is_orphan, settled, without}
use Rattle.machine.specs.Standing.{Snapshots, Standing, none_yet}
use Rattle.machine.specs.State.{handle_count, mounted, open_at}
use Rattle.softdep.specs.Queued.{pending_of}
use Rattle.live_states.proofs.Standing.{idle_mounted}
use Rattle.live_states.proofs.Images.{same_latest}
use Rattle.live_states.specs.Holdings.{AreImages, AreImagesOf, Beside, Holdings, IsIdle, IsImageOf, nothing_beside}
use Rattle.live_states.specs.Snapshots.{IsSettled}
use Rattle.live_states.specs.Volume.{state_over}
use Rattle.snapshot.specs.Alive.{Alive, disk_of, state_of}
use Rattle.snapshot.specs.Goes.{IsBeside}
use Rattle.mending.specs.Repairs.{IsSnapshotChecked, one_beside}

-- what stands beside a volume of which there was no freeze yet
pub alone : {D : Type 0} (image : List (List ℕ)) (live : Alive D) (beside : Beside) → live.holdings.snapshots ≡ none_yet → IsBeside image live beside → IsBeside image live nothing_beside
alone image live beside none is = subst (λ b. IsBeside image live b) (ap (λ s. record { snapshots = s }) (no_images beside.snapshots (subst (λ k. AreImagesOf k beside.snapshots) none is.belongs))) is
  where
    no_standing : (xs : List (Standing View)) → AreImages [] xs → xs ≡ []
    no_standing [] are = refl
    no_standing (x ∷ xs) are = absurd are

    no_images : (images : Snapshots View) → AreImagesOf none_yet images → images ≡ none_yet
    no_images images are = ap₂ (λ (xs : List (Standing View)) (n : ℕ). record { standing = xs; freezes = n }) (no_standing images.standing are.1) are.0

-- ---- a volume as it is mounted is seen as it is

none_open : (view : View) (i h : ℕ) → option_map_or (λ j. eqb j i) (open_at (mounted view) h) false ≡ false
none_open view i h = elim (cases_Bool (ltb h handle_count)) [
  | inl t ↦ ap (λ o. option_map_or (λ j. eqb j i) o false) (cond-true (ltb h handle_count) None None t)
  | inr f ↦ ap (λ o. option_map_or (λ j. eqb j i) o false) (cond-false (ltb h handle_count) None None f)
]

no_orphan : (view : View) (i : ℕ) → is_orphan (mounted view) i ≡ false
no_orphan view i = ap (λ t. t && eqb (view.inode i).links 0) (any_none handle_count (λ h. option_map_or (λ j. eqb j i) (open_at (mounted view) h) false) (λ h b. none_open view i h))

settled_mounted : (geo : Geometry) (view : View) → settled geo (mounted view) ≡ view
settled_mounted geo view =
    ap (λ gone. record (without geo view gone) { block_marked = λ a. (without geo view gone).block_marked a && not false }) (fun_ext (no_orphan view))
    ∙ ap₂ (λ (n m : ℕ → Bool). record view { number_marked = n; block_marked = m })
    (fun_ext (λ i. and_true (view.number_marked i)))
    (fun_ext (λ a. and_true (view.block_marked a && not (any_below (inode_count geo) (λ i. false && claims geo view i a)))
    ∙ ap (λ t. view.block_marked a && not t) (any_none (inode_count geo) (λ i. false && claims geo view i a) (λ i b. refl)) ∙ and_true (view.block_marked a)))

pub settled_disk : {D : Type 0} (image : List (List ℕ)) (live : Alive D) → pending_of live.queue ≡ [] → IsIdle live.holdings → settled live.kept.geometry (state_of image live nothing_beside) ≡ disk_of image live
settled_disk image live none idle =
    let disk = disk_of image live in
    ap (settled live.kept.geometry) (ap (λ q. state_over disk q live.holdings nothing_beside) none ∙ sym (idle_mounted disk live.holdings idle)) ∙ settled_mounted live.kept.geometry disk

-- so what it keeps is what a check is to see
pub settled_idle : (kept : Kept) (holdings : Holdings) → IsIdle holdings → IsSettled kept holdings kept
settled_idle kept holdings idle old shows has =
    let geo = kept.geometry in
    let same : settled geo old ≡ old.view =
    ap₂ (λ (o : ℕ → Option ℕ) (h : ℕ → Bool). settled geo (record old { opened = o; held = h })) has.opened has.held
    ∙ ap (settled geo) (sym (idle_mounted old.view holdings idle)) ∙ settled_mounted geo old.view
    in
    subst (Shows kept) (sym same) shows

-- ---- a check of the snapshot is one of its image

pub other_view : (geo : Geometry) (v w : View) (checked : CheckedImage) → SameMetadata geo v w → IsChecked geo v checked → IsChecked geo w checked
other_view geo v w checked same is = record {
  findings = record {
    in_order = is.findings.in_order;
    exactly = λ f.
        let alike = same_findings geo v w same f in
        ((λ c. alike.0 ((is.findings.exactly f).0 c)), (λ h. (is.findings.exactly f).1 (alike.1 h)));
  };
  report = is.report;
  verdict = is.verdict;
  repairs = is.repairs;
}

pub image_checked : {D : Type 0} (image : List (List ℕ)) (live : Alive D) (view : View) (checked : CheckedImage) → IsBeside image live (one_beside 0 view) → IsSnapshotChecked live checked → IsChecked live.kept.geometry view checked
image_checked image live view checked is c =
    let shows : Shows c.snapshot view = subst (λ kept. IsImageOf kept (Some view)) c.stands (same_latest live.holdings.snapshots (one_beside 0 view).snapshots is.belongs) in
    subst (λ geo. IsChecked geo view checked) c.geometry (other_view c.snapshot.geometry (frozen_view c.snapshot) view checked (shows_metadata c.snapshot view c.metadata shows) c.is_checked)
