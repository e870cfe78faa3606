use Rattle.snapshot.proofs.Joining.{joined}
use Rattle.snapshot.proofs.laws.calls_join.Goals as goal

pub returns : goal.returns
returns g c = λ s t u commands more replies others.
    joined s.beside t.beside u.beside s.held t.held u.held s.image t.image u.image s.volume t.volume u.volume commands more replies others
