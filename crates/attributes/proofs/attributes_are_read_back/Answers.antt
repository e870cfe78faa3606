use Rattle.attributes.proofs.Kept.{read_back}
use Rattle.attributes.proofs.attributes_are_read_back.Goals as goal

pub returns-clause-back : goal.returns-clause-back
returns-clause-back c = λ a fits. read_back a fits
