-- Which check may be installed, and why another may not.
use Rattle.std.proofs.Common.{◌≡◌, ℕ, suc, Bool, true, false, not, List, [], ◌∷◌, length, Option, Some, None, is_none, is_some, arith, cond, eqb, inl, inr, refl, sym, ap, ap₂, ◌∙◌, subst}
use Rattle.std.specs.List.{All, Contains, filter_map, list_all}
use Rattle.std.specs.Option.{option_map, option_or}
use Rattle.std.proofs.lemmas.Bool.{cases_Bool, ne_eqb}
use Rattle.std.proofs.lemmas.List.{length-replicate}
use Rattle.std.proofs.lemmas.List.Elements.{All-cons, All-nil, Contains-append_left, Contains-append_right, Contains-push}
use Rattle.findings.specs.Findings.{AreFindings, IsFinding, is_soft}
use Rattle.findings.specs.Report.{repair_of, verdict_of}
use Rattle.findings.specs.declared.finding.Finding.{Finding}
use Rattle.findings.specs.declared.finding.Finding.TheVariants.{LostInode, CountHigh, LostBlock, LostNumber}
use Rattle.findings.specs.declared.repair.Repair.{Repair}
use Rattle.findings.specs.declared.verdicts.Verdict.TheVariants.{Clean, Damaged, Soft}
use Rattle.findings.proofs.RepairLemmas.{repairs_where_soft}
use Rattle.findings.proofs.SameFindings.{same_findings}
use Rattle.layout.specs.declared.refusal.Refusal.{Refusal}
use Rattle.layout.specs.declared.refusal.Refusal.TheVariants.{NoSnapshot, PlanStands, PlanNotSoft, ForeignPlan}
use Rattle.model.specs.Layout.{Geometry, IsGeometry}
use Rattle.model.specs.Metadata.{SameMetadata}
use Rattle.model.specs.View.{View}
use Rattle.model.proofs.Same.{reachable_number}
use Rattle.machine.specs.Below.{first_of, when}
use Rattle.machine.specs.Causes.{Belongs, FirstRefusal, causes, refusal_of}
use Rattle.machine.specs.Command.{Check, Install}
use Rattle.machine.specs.Standing.{latest_at}
use Rattle.machine.specs.State.{State, latest}
use Rattle.machine.proofs.Decisions.{sound_parts}
use Rattle.frozen.specs.Kept.{Kept, KeepsMetadata, frozen_view}
use Rattle.fsck.specs.Checked.{CheckedImage, IsChecked}
use Rattle.metadata.specs.Shown.{Shows}
use Rattle.metadata.proofs.ShownLemmas.{shows_metadata}
use Rattle.live_states.specs.Holdings.{Has, Holdings, IsImageOf, Repairs, plan_of}
use Rattle.live_states.proofs.Images.{same_latest}
use Rattle.live_states.specs.Snapshots.{AreRepairsOf, IsInstallable, IsRepairOf, installing}
use Rattle.live.specs.Alive.{Alive, IsSnapshotOf}
use Rattle.snapshot.specs.Asked.{check_of}
use Rattle.snapshot.proofs.Alike.{alike, alike_through, image_of_check, image_where_same, not_no_image, same_as_itself}

-- the metadata of the snapshot of the latest freeze, where it stands
abbrev pub latest_of : Holdings → Option Kept
latest_of holdings = latest_at holdings.snapshots.standing holdings.snapshots.freezes

-- ---- the causes of an install, in order

causes_of : (standing planned soft : Bool) → Option Refusal
causes_of standing planned soft = option_or (when (not standing) NoSnapshot) (option_or (when planned PlanStands) (option_or (when (not soft) PlanNotSoft) None))

by_causes : (geo : Geometry) (old : State) (check : Check) → refusal_of geo old (Install check) ≡ causes_of (is_some (latest old)) (is_some old.plan) (list_all is_soft check.findings)
unfolding causes causes_of
by_causes geo old check = by (latest old)
  where
    by : (f : Option View) → first_of (when (is_none f) NoSnapshot ∷ when (is_some old.plan) PlanStands ∷ when (not (list_all is_soft check.findings)) PlanNotSoft ∷ []) ≡ causes_of (is_some f) (is_some old.plan) (list_all is_soft check.findings)
    by None = refl
    by (Some v) = refl

same_some : (snapshot : Option Kept) (frozen : Option View) → IsImageOf snapshot frozen → is_some frozen ≡ is_some snapshot
same_some None None t = refl
same_some (Some k) (Some v) t = refl
same_some None (Some v) t = absurd t
same_some (Some k) None t = absurd t

some_mapped : (repairs : Option Repairs) → is_some (option_map plan_of repairs) ≡ is_some repairs
some_mapped None = refl
some_mapped (Some r) = refl

-- whether repairs are there, by how many they are
pub is_some_of : (repairs : Option Repairs) (count : Option ℕ) → count ≡ option_map (λ (r : Repairs). length r.list) repairs → is_some count ≡ true → is_some repairs ≡ true
is_some_of None count e t = let bad : false ≡ true = ap is_some (sym e) ∙ t in cc
is_some_of (Some r) count e t = refl

pub not_some_of : (repairs : Option Repairs) (count : Option ℕ) → count ≡ option_map (λ (r : Repairs). length r.list) repairs → is_some count ≡ false → is_some repairs ≡ false
not_some_of None count e t = refl
not_some_of (Some r) count e t = let bad : true ≡ false = ap is_some (sym e) ∙ t in cc

pub none_of : (repairs : Option Repairs) → is_some repairs ≡ false → repairs ≡ None
none_of None t = refl
none_of (Some r) t = let bad : true ≡ false = t in cc

module _ (kept : Kept) (holdings : Holdings) (check : Check) where
  -- whatever users see, this is the first cause
  abbrev HeldCause : Refusal → Type 0
  HeldCause r = (old : State) → Has holdings old → FirstRefusal kept.geometry old (Install check) r

  told : (old : State) → Has holdings old → refusal_of kept.geometry old (Install check) ≡ causes_of (is_some (latest_of holdings)) (is_some holdings.repairs) (list_all is_soft check.findings)
  told old has =
      by_causes kept.geometry old check
      ∙ ap (λ b. causes_of b (is_some old.plan) (list_all is_soft check.findings)) (same_some (latest_of holdings) (latest old) (same_latest holdings.snapshots old.snapshots has.snapshots))
      ∙ ap (λ b. causes_of (is_some (latest_of holdings)) b (list_all is_soft check.findings)) (ap is_some has.plan ∙ some_mapped holdings.repairs)

  pub refused_none : is_some (latest_of holdings) ≡ false → HeldCause NoSnapshot
  unfolding causes_of
  refused_none e old has = inl (told old has ∙ ap (λ b. causes_of b (is_some holdings.repairs) (list_all is_soft check.findings)) e)

  module _ (stands : is_some (latest_of holdings) ≡ true) where
    pub refused_planned : is_some holdings.repairs ≡ true → HeldCause PlanStands
    unfolding causes_of
    refused_planned e old has = inl (told old has ∙ ap (λ b. causes_of b (is_some holdings.repairs) (list_all is_soft check.findings)) stands ∙ ap (λ b. causes_of true b (list_all is_soft check.findings)) e)

    module _ (unplanned : is_some holdings.repairs ≡ false) where
      to_soft : (old : State) → Has holdings old → refusal_of kept.geometry old (Install check) ≡ causes_of true false (list_all is_soft check.findings)
      to_soft old has = told old has ∙ ap (λ b. causes_of b (is_some holdings.repairs) (list_all is_soft check.findings)) stands ∙ ap (λ b. causes_of true b (list_all is_soft check.findings)) unplanned

      pub refused_damaged : list_all is_soft check.findings ≡ false → HeldCause PlanNotSoft
      unfolding causes_of
      refused_damaged e old has = inl (to_soft old has ∙ ap (causes_of true false) e)

      pub refused_foreign : list_all is_soft check.findings ≡ true → ((old : State) → Has holdings old → Belongs kept.geometry old (Install check) → ⊥) → HeldCause ForeignPlan
      unfolding causes_of
      refused_foreign e foreign old has = inr (to_soft old has ∙ ap (causes_of true false) e, foreign old has, refl)

-- whatever users see, this is the first cause why a volume does not take the repairs of a check
abbrev pub IsWhyNot : {D : Type 0} → CheckedImage → Refusal → Alive D → Type 0
IsWhyNot checked r live = (old : State) → Has live.holdings old → FirstRefusal live.kept.geometry old (Install (check_of live.kept.geometry checked)) r

-- ---- verdicts

module _ (f : Finding) (fs : List Finding) where
  some : eqb (suc (length fs)) 0 ≡ false
  some = ne_eqb (suc (length fs)) 0 (λ e. omega (arith, e))

  verdict_by : (b : Bool) → list_all is_soft (f ∷ fs) ≡ b → verdict_of (f ∷ fs) ≡ cond b Soft Damaged
  verdict_by b e = ap₂ (λ x y. cond x Clean (cond y Soft Damaged)) some e

pub soft_unless : (fs : List Finding) → (verdict_of fs ≡ Damaged → ⊥) → list_all is_soft fs ≡ true
soft_unless [] calm = refl
soft_unless (f ∷ fs) calm = elim (cases_Bool (list_all is_soft (f ∷ fs))) [ inl t ↦ t | inr e ↦ absurd (calm (verdict_by f fs false e)) ]

pub damaged_not_soft : (fs : List Finding) → verdict_of fs ≡ Damaged → list_all is_soft fs ≡ false
damaged_not_soft [] e = let bad : Clean ≡ Damaged = e in cc
damaged_not_soft (f ∷ fs) e = elim (cases_Bool (list_all is_soft (f ∷ fs))) [ inl t ↦ (let bad : Soft ≡ Damaged = sym (verdict_by f fs true t) ∙ e in cc) | inr s ↦ s ]

-- ---- what the repairs name

-- a repair that there is is of the volume
abbrev of_some : Geometry → Option Repair → Type 0
of_some geo None = ⊥
of_some geo (Some r) = IsRepairOf geo r

repair_named : (geo : Geometry) (view : View) (f : Finding) (r : Repair) → IsFinding geo view f → repair_of f ≡ Some r → IsRepairOf geo r
repair_named geo view (LostInode i) r is e = subst (λ (o : Option Repair). of_some geo o) e (sound_parts geo view i is.0).0
repair_named geo view (CountHigh i l n) r is e = subst (λ (o : Option Repair). of_some geo o) e (reachable_number geo view i is.0)
repair_named geo view (LostBlock a) r is e = subst (λ (o : Option Repair). of_some geo o) e is.0
repair_named geo view (LostNumber i) r is e = subst (λ (o : Option Repair). of_some geo o) e is.0
repair_named geo view _ r is e = absurd cc

more_named : (geo : Geometry) (view : View) (f : Finding) (fs : List Finding) (o : Option Repair) → repair_of f ≡ o → IsFinding geo view f → All (IsRepairOf geo) (filter_map repair_of fs) → All (IsRepairOf geo) (filter_map repair_of (f ∷ fs))
more_named geo view f fs None e is rest = rw e rest
more_named geo view f fs (Some r) e is rest = rw e (All-cons (IsRepairOf geo) r (filter_map repair_of fs) (repair_named geo view f r is e) rest)

named : (geo : Geometry) (view : View) (fs : List Finding) → ((f : Finding) → Contains fs f → IsFinding geo view f) → All (IsRepairOf geo) (filter_map repair_of fs)
named geo view [] each = All-nil (IsRepairOf geo)
named geo view (f ∷ fs) each =
    more_named geo view f fs (repair_of f) refl (each f (Contains-append_left (f ∷ []) fs f (Contains-push [] f)))
    (named geo view fs (λ g c. each g (Contains-append_right (f ∷ []) fs g c)))

-- ---- the check

-- the image of a snapshot that stands
pub record StandsAs (snapshot : Kept) (frozen : Option View) : Type 0 where
  pub image : View
  pub is : frozen ≡ Some image
  pub shows : Shows snapshot image

pub none_stands : (kept : Option Kept) (frozen : Option View) → kept ≡ None → IsImageOf kept frozen → frozen ≡ None
none_stands kept frozen e is = by frozen (subst (λ s. IsImageOf s frozen) e is)
  where
    by : (o : Option View) → IsImageOf None o → o ≡ None
    by None t = refl
    by (Some view) t = absurd t

pub stands_as : (kept : Option Kept) (snapshot : Kept) (frozen : Option View) → kept ≡ Some snapshot → IsImageOf kept frozen → StandsAs snapshot frozen
stands_as kept snapshot frozen e is = by frozen (subst (λ s. IsImageOf s frozen) e is)
  where
    by : (o : Option View) → IsImageOf (Some snapshot) o → StandsAs snapshot o
    by None t = absurd t
    by (Some view) t = record { image = view; is = refl; shows = t }

module _ (kept : Kept) (holdings : Holdings) (checked : CheckedImage) (is : IsChecked checked.frozen.geometry (frozen_view checked.frozen) checked) (snapshot : Kept) (stands : latest_of holdings ≡ Some snapshot)
    (same : snapshot.geometry ≡ kept.geometry) (keeps : KeepsMetadata snapshot) where
  abbrev geo : Geometry
  geo = kept.geometry

  shown : (view : View) → Shows snapshot view → SameMetadata geo (frozen_view snapshot) view
  shown view shows = subst (λ g. SameMetadata g (frozen_view snapshot) view) same (shows_metadata snapshot view keeps shows)

  module _ (alike_geometry : snapshot.geometry ≡ checked.frozen.geometry) (metadata : SameMetadata snapshot.geometry (frozen_view snapshot) (frozen_view checked.frozen)) where
    of_check : SameMetadata geo (frozen_view snapshot) (frozen_view checked.frozen)
    of_check = subst (λ g. SameMetadata g (frozen_view snapshot) (frozen_view checked.frozen)) same metadata

    own : checked.frozen.geometry ≡ geo
    own = sym alike_geometry ∙ same

    found : AreFindings geo (frozen_view checked.frozen) checked.findings
    found = subst (λ g. AreFindings g (frozen_view checked.frozen) checked.findings) own is.findings

    found_in : (view : View) → Shows snapshot view → AreFindings geo view checked.findings
    found_in view shows = record {
      in_order = found.in_order;
      exactly = λ f.
          let s = same_findings geo view (frozen_view checked.frozen) (alike geo (frozen_view snapshot) view (frozen_view checked.frozen) (shown view shows) of_check) f in
          let e = found.exactly f in
          (λ c. s.1 (e.0 c), λ i. e.1 (s.0 i));
    }

    pub installable : holdings.repairs ≡ None → list_all is_soft checked.findings ≡ true → IsInstallable kept holdings (check_of geo checked) checked.repairs
    installable none soft = record {
      snapshot = snapshot;
      stands = stands;
      none = none;
      soft = soft;
      belongs = λ view shows. subst (SameMetadata geo view) (sym (image_where_same geo checked own)) (alike geo (frozen_view snapshot) view (frozen_view checked.frozen) (shown view shows) of_check);
      found = found_in;
      repairs = is.repairs;
    }

    pub repairs_named : list_all is_soft checked.findings ≡ true → AreRepairsOf geo (installing holdings checked.repairs).repairs
    repairs_named soft = (
      subst (All (IsRepairOf geo)) (sym (is.repairs ∙ repairs_where_soft checked.findings soft)) (named geo (frozen_view checked.frozen) checked.findings (λ f c. (found.exactly f).0 c)),
      length-replicate (length checked.repairs) false,
    )

  pub foreign : IsGeometry geo → ((snapshot.geometry ≡ checked.frozen.geometry) × SameMetadata snapshot.geometry (frozen_view snapshot) (frozen_view checked.frozen) → ⊥)
      → (old : State) → Has holdings old → Belongs geo old (Install (check_of geo checked)) → ⊥
  foreign ok differ old has belongs =
      let there = stands_as (latest_of holdings) snapshot (latest old) stands (same_latest holdings.snapshots old.snapshots has.snapshots) in
      let view = there.image in
      let metadata : SameMetadata geo view (check_of geo checked).image = subst (λ v. SameMetadata geo v (check_of geo checked).image) (let e : Some belongs.0 ≡ Some view = sym belongs.1 ∙ there.is in let f : belongs.0 ≡ view = cc in f) belongs.2 in
      elim (image_of_check geo checked) [
        | inl own ↦ differ (
          same ∙ sym own.0,
          subst (λ g. SameMetadata g (frozen_view snapshot) (frozen_view checked.frozen)) (sym same) (alike_through geo (frozen_view snapshot) view (frozen_view checked.frozen) (shown view there.shows) (subst (SameMetadata geo view) own.1 metadata)),
        )
        | inr none ↦ not_no_image geo snapshot view ok same (shown view there.shows) (subst (SameMetadata geo view) none metadata)
      ]

-- the image that was checked is the snapshot of the latest freeze
module _ (kept : Kept) (holdings : Holdings) (checked : CheckedImage) (is : IsChecked checked.frozen.geometry (frozen_view checked.frozen) checked) (stands : latest_of holdings ≡ Some checked.frozen)
    (whole : IsSnapshotOf kept.geometry (latest_of holdings)) where
  own_whole : (checked.frozen.geometry ≡ kept.geometry) × KeepsMetadata checked.frozen
  own_whole = subst (IsSnapshotOf kept.geometry) stands whole

  own_metadata : SameMetadata checked.frozen.geometry (frozen_view checked.frozen) (frozen_view checked.frozen)
  own_metadata = same_as_itself checked.frozen.geometry (frozen_view checked.frozen)

  pub own_installable : holdings.repairs ≡ None → list_all is_soft checked.findings ≡ true → IsInstallable kept holdings (check_of kept.geometry checked) checked.repairs
  own_installable = installable kept holdings checked is checked.frozen stands own_whole.0 own_whole.1 refl own_metadata

  pub own_named : list_all is_soft checked.findings ≡ true → AreRepairsOf kept.geometry (installing holdings checked.repairs).repairs
  own_named = repairs_named kept holdings checked is checked.frozen stands own_whole.0 own_whole.1 refl own_metadata
