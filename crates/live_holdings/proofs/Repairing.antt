-- Why a repair is refused.
use Rattle.std.proofs.Common.{◌≡◌, ℕ, [], ◌∷◌, Option, Some, None, is_none, length, leb, ap, ◌∙◌}
use Rattle.std.specs.Option.{option_and_then, option_map}
use Rattle.layout.specs.declared.refusal.Refusal.{Refusal}
use Rattle.layout.specs.declared.refusal.Refusal.TheVariants.{AlreadyDone, BadIndex, NoPlan}
use Rattle.model.specs.Layout.{Geometry}
use Rattle.machine.specs.Below.{first_of, when}
use Rattle.machine.specs.Causes.{causes, refusal_of}
use Rattle.machine.specs.Command.{RepairAt}
use Rattle.machine.specs.State.{Plan, State}
use Rattle.live_states.specs.Holdings.{Has, Holdings, Repairs, plan_of}
use Rattle.live_holdings.specs.Left.{why_not_left}

abbrev plan_refusal : ℕ → Option Plan → Option Refusal
plan_refusal k plan =
    first_of (when (is_none plan) NoPlan ∷ option_and_then (λ (p : Plan). when (leb (length p.repairs) k) BadIndex) plan ∷ option_and_then (λ (p : Plan). when (p.done k) AlreadyDone) plan ∷ [])

module _ (geo : Geometry) (holdings : Holdings) (k : ℕ) (old : State) (has : Has holdings old) where
  refused_by : (repairs : Option Repairs) → holdings.repairs ≡ repairs → refusal_of geo old (RepairAt k) ≡ plan_refusal k (option_map plan_of repairs)
  unfolding causes
  refused_by repairs is = ap (plan_refusal k) (has.plan ∙ ap (option_map plan_of) is)

  -- no check is installed
  pub refused_without : holdings.repairs ≡ None → refusal_of geo old (RepairAt k) ≡ Some NoPlan
  refused_without is = refused_by None is

  -- one is, and this is why it has nothing left there
  pub refused_with : (repairs : Repairs) → holdings.repairs ≡ Some repairs → refusal_of geo old (RepairAt k) ≡ why_not_left repairs k
  refused_with repairs is = refused_by (Some repairs) is
