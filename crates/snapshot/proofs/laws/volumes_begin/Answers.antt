use Rattle.snapshot.proofs.laws.volumes_begin.Goals as goal

pub returns : goal.returns
returns g c = λ s is. (is.begun.mount, is.begun.history, is.begun.cut, record { stands = is.stands; moment = is.begun.moment })
