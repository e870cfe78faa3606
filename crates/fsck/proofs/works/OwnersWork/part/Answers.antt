use Rattle.std.proofs.Common.{refl}
use Rattle.model.proofs.Adding.{IfOk-both}
use Rattle.fsck.proofs.works.OwnersWork.part.Goals as goal

pub returns-clause-part : goal.returns-clause-part
returns-clause-part c = IfOk-both c.owners.result _ _ _ (λ made own found. ((λ each low. (own each low, found each low)), refl)) c.owners.ensures.owners c.owners.ensures.found
