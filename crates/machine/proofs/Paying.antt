-- A repair pays the debt that it is for, and a plan that is done leaves none.
use Rattle.std.proofs.Common.{◌≡◌, ℕ, true, refl, sym, ap, ◌∙◌, subst, IsTrue, IsFalse, Some, None, Ok}
use Rattle.std.specs.Prelude.{slice_get}
use Rattle.std.specs.Option.{option_and_then}
use Rattle.std.proofs.lemmas.Bool.{both_ways}
use Rattle.model.specs.Layout.{Geometry}
use Rattle.model.specs.Cells.{put_at}
use Rattle.findings.specs.declared.repair.Repair.{Repair}
use Rattle.layout.specs.declared.refusal.Refusal.TheVariants.{AlreadyDone}
use Rattle.machine.specs.Below.{when}
use Rattle.machine.specs.State.{State, Plan, latest}
use Rattle.machine.specs.Command.{RepairAt, Done}
use Rattle.machine.specs.Causes.{causes, refusal_of}
use Rattle.machine.specs.Repairs.{CarriesOut}
use Rattle.machine.specs.Step.{Step}
use Rattle.machine.specs.Balance.{Balance, Owes, OwesBy, IsUndone, OwesNothing, StandOnce}
use Rattle.machine.proofs.Walks.{quiet, when_none}
use Rattle.machine.proofs.PlanSteps.{undone_other}

module _ (geo : Geometry) (old new : State) (b : Balance geo old) (k : ℕ) (plan : Plan) (r : Repair) (planned : old.plan ≡ Some plan) (stands : slice_get plan.repairs k ≡ Some r) where
  undone : refusal_of geo old (RepairAt k) ≡ None → IsFalse (plan.done k)
  unfolding causes
  undone none = when_none (plan.done k) AlreadyDone (sym (ap (option_and_then (λ (p : Plan). when (p.done k) AlreadyDone)) planned) ∙ (quiet (causes geo old (RepairAt k)) none).1.1.0)

  same_plan : (p q : Plan) → Some p ≡ Some q → p ≡ q
  same_plan p q e = cc

  paid : CarriesOut geo old k new → IsFalse (plan.done k) → Owes geo old r × (Owes geo new r → ⊥)
  paid c open_yet = (
    subst (λ p. OwesBy geo old p (latest old) r) (sym planned) (k, stands, open_yet),
    (λ o. undone_other plan k r stands open_yet (subst (λ p. StandOnce p) planned b.once) r (now (subst (λ t. Owes geo t r) c.whole o)) refl),
  )
    where
      now : IsUndone (record c.plan { done = put_at c.plan.done k true }) r → IsUndone (record plan { done = put_at plan.done k true }) r
      now u = subst (λ (p : Plan). IsUndone (record p { done = put_at p.done k true }) r) (same_plan c.plan plan (sym c.planned ∙ planned)) u

  pub repair_pays : Step geo old (RepairAt k) (Ok Done) new → Owes geo old r × (Owes geo new r → ⊥)
  repair_pays s = paid s.1 (undone s.0.0)

pub done_plan : (geo : Geometry) (state : State) (plan : Plan) → state.plan ≡ Some plan → ((k : ℕ) (r : Repair) → slice_get plan.repairs k ≡ Some r → IsTrue (plan.done k)) → OwesNothing geo state
done_plan geo state plan planned all r o =
    let u : IsUndone plan r = subst (λ p. OwesBy geo state p (latest state) r) planned o in
    both_ways (plan.done u.0) u.2 (all u.0 r u.1)
