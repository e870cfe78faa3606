use Rattle.shared.specs.Traces.{now_at}
use Rattle.shared.proofs.laws.traces_lead_to_balance.Goals as goal

pub returns-clause-balance : goal.returns-clause-balance
returns-clause-balance g c = λ held image trace now o. c.volumes_are_in_balance.ensures (now_at o) o.goes.is
