use Rattle.snapshot.specs.Stages.{geometry_at, state_at}
use Rattle.snapshot.proofs.laws.volumes_are_in_balance.Goals as goal

pub returns : goal.returns
returns g c = λ s is. (is.stands.balance, c.balance_is_exact_where_nothing_is_owed.ensures (geometry_at s) (state_at s) is.stands.balance)
