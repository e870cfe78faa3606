use Rattle.plans_data.proofs.Relinking.{close_closes, close_issues}
use Rattle.plans_data.proofs.a_handle_is_closed.Goals as goal

pub returns : goal.returns
returns c = record { closes = λ geo disk q old safe n blocks all h may same. close_closes geo disk q old safe n blocks all h may same; issues = close_issues }
