-- The plan that stands while repairs are carried out.
use Rattle.std.proofs.Common.{◌≡◌, ◌<◌, ℕ, zero, suc, true, false, eqb, leb, List, [], ◌∷◌, length, Ok, Option, Some, None, is_none, refl, sym, ap, ◌∙◌, subst, arith}
use Rattle.std.specs.Prelude.{if◌then◌else◌}
use Rattle.std.proofs.lemmas.Bool.Decides.{nat_tests}
use Rattle.std.specs.Option.{option_and_then}
use Rattle.std.proofs.lemmas.Bool.{cond-false}
use Rattle.std.proofs.lemmas.Option.{same_Some}
use Rattle.layout.specs.declared.refusal.Refusal.TheVariants.{AlreadyDone, BadIndex, NoPlan}
use Rattle.findings.specs.Findings.{AreFindings}
use Rattle.findings.specs.Report.{repairs_of}
use Rattle.findings.specs.declared.finding.Finding.{Finding}
use Rattle.model.specs.Layout.{Geometry}
use Rattle.model.specs.View.{View}
use Rattle.machine.specs.Below.{first_of, when}
use Rattle.machine.specs.Causes.{causes, refusal_of}
use Rattle.machine.specs.Command.{Check, Done, Install, RepairAt}
use Rattle.machine.specs.State.{Plan, State, latest}
use Rattle.machine.specs.Step.{Run, Step}
use Rattle.mending.specs.Repairs.{IsPlanned, all_done, repairs_below}
use Rattle.mending.proofs.Upkeep.{as_many, last_step}

-- no cause refuses a repair that is to be done
pub may_repair : (geo : Geometry) (old : State) (k count : ℕ) → IsPlanned old k count → k < count → refusal_of geo old (RepairAt k) ≡ None
unfolding causes
may_repair geo old k count is low =
    let list = is.plan.repairs in
    let within : leb (length list) k ≡ false = grind (arith, nat_tests, is.enough, low) in
    ap (λ (p : Option Plan). first_of (when (is_none p) NoPlan ∷ option_and_then (λ (plan : Plan). when (leb (length plan.repairs) k) BadIndex) p ∷ option_and_then (λ (plan : Plan). when (plan.done k) AlreadyDone) p ∷ [])) is.planned
    ∙ ap (λ t. first_of (when t BadIndex ∷ when (is.plan.done k) AlreadyDone ∷ [])) within
    ∙ ap (λ t. first_of (when t AlreadyDone ∷ [])) (is.undone k (omega arith))

-- ---- the plan that stands

-- once a check is installed all its repairs are to be done
pub installed : (geo : Geometry) (old new : State) (check : Check) (view : View) (findings : List Finding) → latest old ≡ Some view → AreFindings geo view findings
    → ((geo : Geometry) (view : View) (fs gs : List Finding) → AreFindings geo view fs → AreFindings geo view gs → fs ≡ gs)
    → Run geo old (Install check ∷ []) (Ok Done ∷ []) new → IsPlanned new 0 (length (repairs_of findings))
installed geo old new check view findings stands found unique run =
    let installs = run.1.1 in
    let same : view ≡ installs.image = same_Some view installs.image (sym stands ∙ installs.stands) in
    let list : findings ≡ installs.findings = unique geo view findings installs.findings found (subst (λ v. AreFindings geo v installs.findings) (sym same) installs.found) in
    record {
      plan = record { repairs = repairs_of installs.findings; done = λ k. false };
      planned = ap (λ (s : State). s.plan) (run.2 ∙ installs.whole);
      enough = omega (arith, ap (λ fs. length (repairs_of fs)) list);
      undone = λ k low. refl;
    }

-- a repair leaves those behind it to be done
repaired_one : (geo : Geometry) (old new : State) (n count : ℕ) → Step geo old (RepairAt n) (Ok Done) new → IsPlanned old n count → IsPlanned new (suc n) count
repaired_one geo old new n count step is =
    let done = step.1 in
    let same : is.plan ≡ done.plan = same_Some is.plan done.plan (sym is.planned ∙ done.planned) in
    record {
      plan = record done.plan { done = λ k. if eqb k n then true else done.plan.done k };
      planned = ap (λ (s : State). s.plan) done.whole;
      enough = omega (arith, is.enough, ap (λ (p : Plan). length p.repairs) same);
      undone = λ k low.
          let other : eqb k n ≡ false = grind (arith, nat_tests, low) in
          cond-false (eqb k n) true (done.plan.done k) other ∙ ap (λ (p : Plan). p.done k) (sym same) ∙ is.undone k (omega (arith, low));
    }

pub planned_on : (geo : Geometry) (old new : State) (n count : ℕ) → Run geo old (repairs_below n) (all_done n) new → IsPlanned old 0 count → IsPlanned new n count
planned_on geo old new zero count run is = subst (λ s. IsPlanned s 0 count) (sym run) is
planned_on geo old new (suc n) count run is =
    let last = last_step geo old new (repairs_below n) (RepairAt n) (all_done n) (Ok Done) (as_many n) run in
    repaired_one geo last.0 new n count last.2 (planned_on geo old last.0 n count last.1 is)
