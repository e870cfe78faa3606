use Rattle.std.proofs.Common.{refl}
use Rattle.std.proofs.lemmas.Result.{IfOk-weaker}
use Rattle.fsck.proofs.works.LinksWork.part.Goals as goal

pub returns-clause-part : goal.returns-clause-part
returns-clause-part c =
    IfOk-weaker c.findings.result _ _ (λ found told. ((λ are each low. told are (c.in_ok-counts.ensures.counts c.args.self.now.reached.now are each low) low), refl)) c.findings.ensures.found
