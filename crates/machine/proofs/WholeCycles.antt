-- A check of a snapshot, installed and carried out, leaves nothing owed.
use Rattle.std.proofs.Common.{◌≡◌, ℕ, false, List, [], ◌∷◌, ◌++◌, length, ◌⊎◌, inl, inr, refl, sym, ap, ◌∙◌, subst, arith, Some, None, Ok}
use Rattle.std.specs.Prelude.{slice_get}
use Rattle.model.specs.Layout.{Geometry, IsGeometry}
use Rattle.model.specs.View.{View}
use Rattle.model.specs.Image.{IsImage, image_view}
use Rattle.model.specs.Rules.{ObeysRules}
use Rattle.findings.specs.declared.finding.Finding.{Finding}
use Rattle.findings.specs.declared.repair.Repair.{Repair}
use Rattle.findings.specs.Findings.{AreFindings, finding_cmp}
use Rattle.findings.specs.Report.{repairs_of}
use Rattle.findings.proofs.Sorted.{same_sorted}
use Rattle.machine.specs.State.{State, mounted, latest}
use Rattle.machine.specs.Command.{Check, Command, Freeze, Install, RepairAt, Done, Image, Reply}
use Rattle.machine.specs.Snapshot.{Installs}
use Rattle.machine.specs.Step.{Step, Run}
use Rattle.machine.specs.Runs.{IsTaken}
use Rattle.machine.specs.Balance.{Balance, Exact, OwesNothing}
use Rattle.machine.proofs.PlanLists.{finding_total}
use Rattle.machine.proofs.AllSteps.{step_keeps, run_keeps, run_from_image}
use Rattle.machine.proofs.Cycles.{frozen_begins, run_latest, whole_cycle}

-- a view has one list of findings
same_findings : (geo : Geometry) (view : View) (fs gs : List Finding) → AreFindings geo view fs → AreFindings geo view gs → fs ≡ gs
same_findings geo view fs gs f g = same_sorted finding_cmp finding_total fs gs f.in_order g.in_order (λ x h. (g.exactly x).1 ((f.exactly x).0 h)) (λ x h. (f.exactly x).1 ((g.exactly x).0 h))

-- the plan of a check of this image, where the latest freeze can have no other
installed_plan : (geo : Geometry) (ready planned : State) (image : View) (findings : List Finding) → Installs geo ready planned → (latest ready ≡ Some image) ⊎ (latest ready ≡ None) → AreFindings geo image findings
    → planned.plan ≡ Some (record { repairs = repairs_of findings; done = λ k. false })
installed_plan geo ready planned image findings i stands found =
    ap (λ (s : State). s.plan) i.whole
    ∙ ap (λ (fs : List Finding). Some (record { repairs = repairs_of fs; done = λ k. false })) (same_findings geo image i.findings findings (subst (λ v. AreFindings geo v i.findings) (same stands) i.found) found)
  where
    same_view : (v w : View) → Some v ≡ Some w → v ≡ w
    same_view v w e = cc

    same : (latest ready ≡ Some image) ⊎ (latest ready ≡ None) → i.image ≡ image
    same (inl at) = same_view i.image image (sym i.stands ∙ at)
    same (inr none) = absurd (let bad : None ≡ Some i.image = sym none ∙ i.stands in cc)

-- from the freeze on
pub carried_out : (geo : Geometry) → IsGeometry geo → (old frozen ready planned new : State) (s : ℕ) (image : View) (check : Check) (findings : List Finding) (first second : List Command) (replies answers : List Reply)
    → Balance geo old → Step geo old Freeze (Ok (Image s image)) frozen → Run geo frozen first replies ready → (IsTaken Freeze first replies → ⊥)
    → Step geo ready (Install check) (Ok Done) planned → Run geo planned second answers new → (IsTaken Freeze second answers → ⊥)
    → AreFindings geo image findings → ((k : ℕ) (r : Repair) → slice_get (repairs_of findings) k ≡ Some r → IsTaken (RepairAt k) second answers)
    → OwesNothing geo new × Exact geo new
carried_out geo g old frozen ready planned new s image check findings first second replies answers b freeze run no_freeze install last no_other found all =
    whole_cycle geo g planned new second answers (record { repairs = repairs_of findings; done = λ k. false }) in_balance
    (installed_plan geo ready planned image findings install.1 stands found) last no_other (λ k r e. inr (all k r e))
  where
    stands : (latest ready ≡ Some image) ⊎ (latest ready ≡ None)
    stands = elim (run_latest geo frozen ready first replies run no_freeze) [ inl same ↦ inl (same ∙ (frozen_begins geo old frozen s image freeze).1) | inr ended ↦ inr ended ]

    in_balance : Balance geo planned
    in_balance = step_keeps geo g ready planned (Install check) (Ok Done) (run_keeps geo g frozen ready first replies (step_keeps geo g old frozen Freeze (Ok (Image s image)) b freeze) run) install

-- from a volume as it is mounted on
pub carried_out_on_image : (geo : Geometry) (volume : List (List ℕ)) (old frozen ready planned new : State) (s : ℕ) (image : View) (check : Check) (findings : List Finding) (before first second : List Command) (earlier replies answers : List Reply)
    → IsImage geo volume → ObeysRules geo (image_view geo volume) → Run geo (mounted (image_view geo volume)) before earlier old
    → Step geo old Freeze (Ok (Image s image)) frozen → Run geo frozen first replies ready → (IsTaken Freeze first replies → ⊥)
    → Step geo ready (Install check) (Ok Done) planned → Run geo planned second answers new → (IsTaken Freeze second answers → ⊥)
    → AreFindings geo image findings → ((k : ℕ) (r : Repair) → slice_get (repairs_of findings) k ≡ Some r → IsTaken (RepairAt k) second answers)
    → OwesNothing geo new × Exact geo new
carried_out_on_image geo volume old frozen ready planned new s image check findings before first second earlier replies answers h o start =
    carried_out geo h.geometry old frozen ready planned new s image check findings first second replies answers (run_from_image geo volume old before earlier h o start).0

-- a run of commands and then others is two runs
split : (geo : Geometry) (old new : State) (one other : List Command) (xs ys : List Reply) → length xs ≡ length one → Run geo old (one ++ other) (xs ++ ys) new → (mid : State) × Run geo old one xs mid × Run geo mid other ys new
split geo old new [] other [] ys e r = (old, refl, r)
split geo old new (c ∷ cs) other (x ∷ xs) ys e r = let rest = split geo r.0 new cs other xs ys (omega (arith, e)) r.2 in (rest.0, (r.0, r.1, rest.1), rest.2)
split geo old new [] other (x ∷ xs) ys e r = absurd (omega (arith, e))
split geo old new (c ∷ cs) other [] ys e r = absurd (omega (arith, e))

-- the same as one run
pub carried_out_in_run : (geo : Geometry) (volume : List (List ℕ)) (new : State) (s : ℕ) (image : View) (check : Check) (findings : List Finding) (before first second : List Command) (earlier replies answers : List Reply)
    → IsImage geo volume → ObeysRules geo (image_view geo volume) → length earlier ≡ length before → length replies ≡ length first
    → Run geo (mounted (image_view geo volume)) (before ++ (Freeze ∷ (first ++ (Install check ∷ second)))) (earlier ++ (Ok (Image s image) ∷ (replies ++ (Ok Done ∷ answers)))) new
    → (IsTaken Freeze first replies → ⊥) → (IsTaken Freeze second answers → ⊥)
    → AreFindings geo image findings → ((k : ℕ) (r : Repair) → slice_get (repairs_of findings) k ≡ Some r → IsTaken (RepairAt k) second answers)
    → OwesNothing geo new × Exact geo new
carried_out_in_run geo volume new s image check findings before first second earlier replies answers h o e f run no_freeze no_other =
    let one = split geo (mounted (image_view geo volume)) new before (Freeze ∷ (first ++ (Install check ∷ second))) earlier (Ok (Image s image) ∷ (replies ++ (Ok Done ∷ answers))) e run in
    let two = split geo one.2.0 new first (Install check ∷ second) replies (Ok Done ∷ answers) f one.2.2 in
    carried_out_on_image geo volume one.0 one.2.0 two.0 two.2.0 new s image check findings before first second earlier replies answers h o one.1 one.2.1 two.1 no_freeze two.2.1 two.2.2 no_other
