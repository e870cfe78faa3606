use Rattle.std.proofs.Common.{◌≡◌, ℕ, List, [], Ok, Err, Result, OnErr, OnOk, IfErr, inl, refl, sym, ◌∙◌, subst}
use Rattle.std.proofs.lemmas.Result.{err_from_is_err_and}
use Rattle.layout.specs.declared.refusal.Refusal.{Refusal}
use Rattle.layout.specs.declared.refusal.Refusal.TheVariants.{NoMemory}
use Rattle.device.specs.Media.{Held}
use Rattle.findings.specs.declared.repair.Repair.{Repair}
use Rattle.fsck.specs.Checked.{CheckedImage}
use Rattle.machine.specs.Command.{Check, Done, Install}
use Rattle.live_states.specs.Planned.{IsQuietlyDone}
use Rattle.live_states.specs.Snapshots.{AreRepairsOf, IsInstallable, installing}
use Rattle.live_states.proofs.Installing.{installed_quietly}
use Rattle.live_states.proofs.Standing.{has}
use Rattle.live.specs.Alive.{Alive, Answers, StandsSo}
use Rattle.live.proofs.Durably.{goes_seen, goes_still}
use Rattle.snapshot.specs.Asked.{check_of}
use Rattle.snapshot.specs.Goes.{GoesSafely, HasBeside, Replies}
use Rattle.snapshot.proofs.CallLemmas.{if_err, kept_ok, on_ok₂, quiet_ok, same_err, same_device}
use Rattle.snapshot.proofs.volume.Volume.take_repairs.Goals as goal

pub returns-in_err-repairs-clause-refused : goal.returns-in_err-repairs-clause-refused
returns-in_err-repairs-clause-refused g c =
    let p = err_from_is_err_and c.from_residual.result c.from_residual.ensures.1 in
    let old = c.args.self.now in
    rw (p.1, p.2)
    (λ h. same_err g.D.Device.honest g.D.Device.held g.D.Device.image old old (Install (check_of old.kept.geometry c.args.checked.now)) NoMemory refl (λ beside is. inl refl))

-- what is asked of the volume as it is seen, of what stands in it
module _ {D : Type 0} (seen within : Alive D) (checked : CheckedImage) (same : seen ≡ within) where
  abbrev MayBe : Alive D → Type 0
  MayBe live = IsInstallable live.kept live.holdings (check_of live.kept.geometry checked) checked.repairs

  abbrev AreNamed : Alive D → Type 0
  AreNamed live = AreRepairsOf live.kept.geometry (installing live.holdings checked.repairs).repairs

  installable_in : MayBe seen → MayBe within
  installable_in is = subst MayBe same is

  named_in : AreNamed seen → AreNamed within
  named_in are = subst AreNamed same are

pub install-outcome-requires-clause-check : goal.install-outcome-requires-clause-check
install-outcome-requires-clause-check g c =
    let old = c.self.inside.live in
    let check = check_of old.kept.geometry c.args.checked.now in
    let items : c.in_ok-repairs.repairs.items ≡ c.args.checked.now.repairs = c.in_ok-repairs.ensures.items_if_clones_equal (λ x y e. e) ∙ c.repairs.ensures.repairs in
    (check, subst (λ l. IsQuietlyDone old.kept old.holdings [] (Install check) Done (installing old.holdings l)) (sym items) (installed_quietly old.kept old.holdings check c.args.checked.now.repairs (installable_in c.args.self.now old c.args.checked.now (sym c.self.view_is) c.requires.installable)))

pub install-outcome-requires-clause-repairs : goal.install-outcome-requires-clause-repairs
install-outcome-requires-clause-repairs g c =
    let old = c.self.inside.live in
    let items : c.in_ok-repairs.repairs.items ≡ c.args.checked.now.repairs = c.in_ok-repairs.ensures.items_if_clones_equal (λ x y e. e) ∙ c.repairs.ensures.repairs in
    subst (λ l. AreRepairsOf old.kept.geometry (installing old.holdings l).repairs) (sym items) (named_in c.args.self.now old c.args.checked.now (sym c.self.view_is) c.requires.named)

module _ {D : Type 0} {T : Type 0} (honest : D → Type 0) (held_of : D → Held) (image_of : D → List (List ℕ)) (old new : Alive D) (check : Check) (list items : List Repair) (same : items ≡ list)
    (installable : IsInstallable old.kept old.holdings check list) (outcome : Result T Refusal)
    (done : OnOk outcome ((check : Check) → IsQuietlyDone old.kept old.holdings [] (Install check) Done (installing old.holdings items) → honest old.device → Answers (image_of old.device) old (Install check) Done (image_of new.device) new []))
    (installed : OnOk outcome (new ≡ record old { holdings = installing old.holdings items })) (untouched : OnErr outcome (new ≡ old)) (so : honest new.device → StandsSo (image_of new.device) new) where
  quietly_done : IsQuietlyDone old.kept old.holdings [] (Install check) Done (installing old.holdings items)
  quietly_done = subst (λ l. IsQuietlyDone old.kept old.holdings [] (Install check) Done (installing old.holdings l)) (sym same) (installed_quietly old.kept old.holdings check list installable)

  device : new.device ≡ old.device
  device = same_device old new (installing old.holdings items) outcome installed untouched

  sound : new ≡ record old { holdings = installing old.holdings items } → GoesSafely (held_of old.device) (image_of old.device) old (Install check) (held_of new.device) (image_of new.device) new
  sound e = subst (λ (l : Alive D). GoesSafely (held_of old.device) (image_of old.device) old (Install check) (held_of l.device) (image_of l.device) l) (sym e)
      (λ safe. goes_seen _ _ _ _ _ _ _ _ (goes_still (held_of old.device) (held_of old.device) old (record old { holdings = installing old.holdings items }) refl refl refl refl safe))

  installs : OnOk outcome (honest new.device → Replies (held_of old.device) (image_of old.device) old (Install check) (Ok Done) (held_of new.device) (image_of new.device) new)
  installs = on_ok₂ (λ d e. quiet_ok honest held_of image_of old new (Install check) Done device so (d check quietly_done) (λ h. sound e)) outcome done installed

  keeps : (honest old.device → HasBeside (image_of old.device) old) → honest new.device → HasBeside (image_of new.device) new
  keeps has = kept_ok honest held_of image_of old new (Install check) Done outcome installs untouched has (subst honest device)

pub invariant_of-self : goal.invariant_of-self
invariant_of-self g c =
    let old = c.self.inside.live in
    let o = c.install-outcome.ensures in
    keeps g.D.Device.honest g.D.Device.held g.D.Device.image old c.install-outcome.new.self (check_of old.kept.geometry c.args.checked.now) c.args.checked.now.repairs c.in_ok-repairs.repairs.items
    (c.in_ok-repairs.ensures.items_if_clones_equal (λ x y e. e) ∙ c.repairs.ensures.repairs) (installable_in c.args.self.now old c.args.checked.now (sym c.self.view_is) c.requires.installable) c.install-outcome.result o.done o.installed o.untouched c.device.ensures.stands c.self.invariant

pub returns-clause-installed : goal.returns-clause-installed
returns-clause-installed g c =
    let old = c.self.inside.live in
    let new = c.install-outcome.new.self in
    let o = c.install-outcome.ensures in
    subst (λ (l : Alive _). OnOk c.install-outcome.result (g.D.Device.honest new.device → Replies (g.D.Device.held l.device) (g.D.Device.image l.device) l (Install (check_of l.kept.geometry c.args.checked.now)) (Ok Done) (g.D.Device.held new.device) (g.D.Device.image new.device) new)) c.self.view_is
    (installs g.D.Device.honest g.D.Device.held g.D.Device.image old new (check_of old.kept.geometry c.args.checked.now) c.args.checked.now.repairs c.in_ok-repairs.repairs.items
    (c.in_ok-repairs.ensures.items_if_clones_equal (λ x y e. e) ∙ c.repairs.ensures.repairs) (installable_in c.args.self.now old c.args.checked.now (sym c.self.view_is) c.requires.installable) c.install-outcome.result o.done o.installed o.untouched c.device.ensures.stands)

pub returns-clause-refused : goal.returns-clause-refused
returns-clause-refused g c =
    let old = c.self.inside.live in
    let new = c.install-outcome.new.self in
    let o = c.install-outcome.ensures in
    subst (λ (l : Alive _). IfErr c.install-outcome.result (λ r. g.D.Device.honest new.device → Replies (g.D.Device.held l.device) (g.D.Device.image l.device) l (Install (check_of l.kept.geometry c.args.checked.now)) (Err r) (g.D.Device.held new.device) (g.D.Device.image new.device) new)) c.self.view_is
    (if_err (λ r none same h. same_err g.D.Device.honest g.D.Device.held g.D.Device.image old new (Install (check_of old.kept.geometry c.args.checked.now)) r same (λ beside is. inl none)) c.install-outcome.result o.error o.untouched)
