use Rattle.model.proofs.FreshLemmas.{fresh_obeys}
use Rattle.model.proofs.fresh_image_obeys.Goals as goal

pub returns : goal.returns
returns c = fresh_obeys
