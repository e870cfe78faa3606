use Rattle.pictures.specs.Uses.{claims_of}
use Rattle.pictures.proofs.OneUse.{one_use}
use Rattle.pictures.proofs.no_block_has_two_uses.Goals as goal

pub returns : goal.returns
returns c = λ geo view a cell other h g. one_use geo view (claims_of geo view a) a cell other h g
