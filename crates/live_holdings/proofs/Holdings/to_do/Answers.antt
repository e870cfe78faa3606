use Rattle.std.proofs.Common.{◌≡◌, Some, sym, ap, ◌∙◌}
use Rattle.std.proofs.lemmas.Result.{IfErr-weaker}
use Rattle.model.specs.Layout.{Geometry}
use Rattle.machine.specs.Causes.{refusal_of}
use Rattle.machine.specs.Command.{RepairAt}
use Rattle.machine.specs.State.{State}
use Rattle.live_states.specs.Holdings.{Has, Holdings}
use Rattle.live_holdings.specs.Left.{why_not_left}
use Rattle.live_holdings.proofs.Repairing.{refused_with, refused_without}
use Rattle.live_holdings.proofs.Holdings.to_do.Goals as goal

pub returns-in-Some-clause-refused : goal.returns-in-Some-clause-refused
returns-in-Some-clause-refused c =
    IfErr-weaker c.left.result (λ r. why_not_left c.in-Some.repairs c.args.place ≡ Some r) (λ r. (geo : Geometry) → (old : State) → Has c.args.self.now old → refusal_of geo old (RepairAt c.args.place) ≡ Some r)
    (λ r why geo old has. refused_with geo c.args.self.now c.args.place old has c.in-Some.repairs (ap (λ (l : Holdings). l.repairs) (sym c.self.view_is) ∙ c.in-Some.is) ∙ why)
    c.left.ensures.refused

pub returns-in-None-clause-refused : goal.returns-in-None-clause-refused
returns-in-None-clause-refused c = λ geo old has. refused_without geo c.args.self.now c.args.place old has (ap (λ (l : Holdings). l.repairs) (sym c.self.view_is) ∙ c.in-None.is)
