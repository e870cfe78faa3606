use Rattle.std.proofs.Common.{◌≡◌, true, Option, Some, None, is_some, sym, ap, ◌∙◌, subst}
use Rattle.std.specs.Arc.{arc_value}
use Rattle.std.specs.Option.{option_copied, option_map}
use Rattle.std.specs.List.{list_all}
use Rattle.std.proofs.lemmas.Bool.{both_ways}
use Rattle.std.proofs.lemmas.Result.{err_from_is_err_and}
use Rattle.findings.specs.Findings.{is_soft}
use Rattle.layout.specs.declared.refusal.Refusal.TheVariants.{ForeignPlan}
use Rattle.model.specs.Layout.{IsGeometry}
use Rattle.model.specs.Metadata.{SameMetadata}
use Rattle.machine.specs.Causes.{FirstRefusal}
use Rattle.machine.specs.Command.{Install}
use Rattle.machine.specs.State.{State}
use Rattle.frozen.specs.Kept.{Kept, KeepsMetadata, frozen_view}
use Rattle.fsck.specs.Checked.{CheckedImage, IsChecked}
use Rattle.live_states.specs.Holdings.{Has, Holdings}
use Rattle.live_states.specs.Snapshots.{AreRepairsOf, IsInstallable, installing}
use Rattle.live.specs.Alive.{IsSnapshotOf}
use Rattle.snapshot.specs.Asked.{check_of}
use Rattle.snapshot.proofs.Installs.{foreign, installable, latest_of, refused_foreign, refused_none, repairs_named}
use Rattle.snapshot.proofs.checking.may_install.Goals as goal

pub returns-in_default-clause-refused : goal.returns-in_default-clause-refused
returns-in_default-clause-refused g c =
    let live = c.args.live.now in
    refused_none live.kept live.holdings (check_of live.kept.geometry c.args.checked.now)
    (ap is_some (sym c.latest.ensures.snapshot ∙ ap (λ o. option_map arc_value (option_copied o)) c.in_default.is))

pub may_mend-requires : goal.may_mend-requires
may_mend-requires g c =
    ap is_some (sym c.latest.ensures.snapshot ∙ ap (λ o. option_map arc_value (option_copied o)) c.in-Some.is)

pub returns-in_err-may_mend-clause-refused : goal.returns-in_err-may_mend-clause-refused
returns-in_err-may_mend-clause-refused g c =
    let p = err_from_is_err_and c.from_residual.result c.from_residual.ensures.1 in
    rw (p.1, p.2) c.in_err-may_mend.ensures.refused

-- the snapshot of the latest freeze, which stands
module _ (kept : Kept) (holdings : Holdings) (checked : CheckedImage) (snapshot : Option Kept) (s : Kept) (told : snapshot ≡ latest_of holdings) (is : snapshot ≡ Some s) (whole : IsSnapshotOf kept.geometry (latest_of holdings))
    (image : IsChecked checked.frozen.geometry (frozen_view checked.frozen) checked) where
  stands : latest_of holdings ≡ Some s
  stands = sym told ∙ is

  whole' : (s.geometry ≡ kept.geometry) × KeepsMetadata s
  whole' = subst (IsSnapshotOf kept.geometry) stands whole

  module _ (unplanned : holdings.repairs ≡ None) (soft : list_all is_soft checked.findings ≡ true) where
    refuses_foreign : ((s.geometry ≡ checked.frozen.geometry) × SameMetadata s.geometry (frozen_view s) (frozen_view checked.frozen) → ⊥)
        → (old : State) → Has holdings old → FirstRefusal kept.geometry old (Install (check_of kept.geometry checked)) ForeignPlan
    refuses_foreign differ = refused_foreign kept holdings (check_of kept.geometry checked) (ap is_some stands) (ap is_some unplanned) soft
        (foreign kept holdings checked image s stands whole'.0 whole'.1 (subst IsGeometry whole'.0 whole'.1.frame.geometry) differ)

    module _ (same : (s.geometry ≡ checked.frozen.geometry) × SameMetadata s.geometry (frozen_view s) (frozen_view checked.frozen)) where
      may_be : IsInstallable kept holdings (check_of kept.geometry checked) checked.repairs
      may_be = installable kept holdings checked image s stands whole'.0 whole'.1 same.0 same.1 unplanned soft

      are_named : AreRepairsOf kept.geometry (installing holdings checked.repairs).repairs
      are_named = repairs_named kept holdings checked image s stands whole'.0 whole'.1 same.0 same.1 soft

-- the images that were compared
abbrev AreAlike : Kept → Kept → Type 0
AreAlike one other = (one.geometry ≡ other.geometry) × SameMetadata one.geometry (frozen_view one) (frozen_view other)

pub returns-then-not-have_same_metadata-clause-refused : goal.returns-then-not-have_same_metadata-clause-refused
returns-then-not-have_same_metadata-clause-refused g c =
    let live = c.args.live.now in
    let checked = c.args.checked.now in
    let s = arc_value c.in-Some.snapshot.now in
    let frozen = option_map arc_value (option_copied c.latest.result) in
    let is : frozen ≡ Some s = ap (λ o. option_map arc_value (option_copied o)) c.in-Some.is in
    let unplanned = c.in_ok-may_mend.ensures.unplanned in
    let soft = c.in_ok-may_mend.ensures.soft in
    let one : c.deref.result.now ≡ s = c.deref.ensures in
    let other : c.deref-2.result.now ≡ checked.frozen = c.deref-2.ensures ∙ c.frozen.ensures in
    refuses_foreign live.kept live.holdings checked frozen s c.latest.ensures.snapshot is c.latest.ensures.whole c.tells_its_image.ensures unplanned soft
    (λ alike. both_ways c.have_same_metadata.result c.if-not-have_same_metadata.true (c.have_same_metadata.ensures.1 (subst (λ k. AreAlike k c.deref-2.result.now) (sym one) (subst (AreAlike s) (sym other) alike))))

pub returns-clause-installable : goal.returns-clause-installable
returns-clause-installable g c =
    let live = c.args.live.now in
    let checked = c.args.checked.now in
    let s = arc_value c.in-Some.snapshot.now in
    let frozen = option_map arc_value (option_copied c.latest.result) in
    let is : frozen ≡ Some s = ap (λ o. option_map arc_value (option_copied o)) c.in-Some.is in
    let unplanned = c.in_ok-may_mend.ensures.unplanned in
    let soft = c.in_ok-may_mend.ensures.soft in
    let one : c.deref.result.now ≡ s = c.deref.ensures in
    let other : c.deref-2.result.now ≡ checked.frozen = c.deref-2.ensures ∙ c.frozen.ensures in
    may_be live.kept live.holdings checked frozen s c.latest.ensures.snapshot is c.latest.ensures.whole c.tells_its_image.ensures c.in_ok-may_mend.ensures.unplanned c.in_ok-may_mend.ensures.soft
    (subst (AreAlike s) other (subst (λ k. AreAlike k c.deref-2.result.now) one (c.have_same_metadata.ensures.0 c.if-not-have_same_metadata.false)))

pub returns-clause-named : goal.returns-clause-named
returns-clause-named g c =
    let live = c.args.live.now in
    let checked = c.args.checked.now in
    let s = arc_value c.in-Some.snapshot.now in
    let frozen = option_map arc_value (option_copied c.latest.result) in
    let is : frozen ≡ Some s = ap (λ o. option_map arc_value (option_copied o)) c.in-Some.is in
    let unplanned = c.in_ok-may_mend.ensures.unplanned in
    let soft = c.in_ok-may_mend.ensures.soft in
    let one : c.deref.result.now ≡ s = c.deref.ensures in
    let other : c.deref-2.result.now ≡ checked.frozen = c.deref-2.ensures ∙ c.frozen.ensures in
    are_named live.kept live.holdings checked frozen s c.latest.ensures.snapshot is c.latest.ensures.whole c.tells_its_image.ensures c.in_ok-may_mend.ensures.unplanned c.in_ok-may_mend.ensures.soft
    (subst (AreAlike s) other (subst (λ k. AreAlike k c.deref-2.result.now) one (c.have_same_metadata.ensures.0 c.if-not-have_same_metadata.false)))
