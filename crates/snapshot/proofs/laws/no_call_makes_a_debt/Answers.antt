use Rattle.std.proofs.Common.{sym, subst}
use Rattle.machine.specs.Debts.{MakesNoDebt}
use Rattle.snapshot.specs.Stages.{geometry_at, state_at}
use Rattle.snapshot.proofs.laws.no_call_makes_a_debt.Goals as goal

pub returns : goal.returns
returns g c = λ s t command reply is leads.
    subst (MakesNoDebt (geometry_at s) (state_at s)) (sym leads.run.2)
    (c.no_step_makes_a_debt.ensures (geometry_at s) is.stands.geometry (state_at s) leads.run.0 command reply is.stands.balance leads.run.1)
