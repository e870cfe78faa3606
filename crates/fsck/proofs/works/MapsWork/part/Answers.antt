use Rattle.std.proofs.Common.{◌<◌, ℕ, refl, sym, subst}
use Rattle.std.proofs.lemmas.Result.{IfOk-weaker}
use Rattle.findings.proofs.JoinLemmas.{stands_at}
use Rattle.fsck.proofs.works.MapsWork.part.Goals as goal

pub returns-clause-part : goal.returns-clause-part
returns-clause-part c =
    IfOk-weaker c.maps_of.result _ _
    (λ found told. (
      (λ each low.
          let own = stands_at c.args.self.now.owners.now c.args.unit (subst (λ (n : ℕ). c.args.unit < n) (sym each.count) low) in
          told own.0 own.1 (each.each c.args.unit own.0 own.1) low),
      refl,
    )) c.maps_of.ensures.found
