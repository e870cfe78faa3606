use Rattle.std.proofs.Common.{refl}
use Rattle.fsck.proofs.PartLemmas.{made_alike}
use Rattle.fsck.proofs.hands.parts_of_crew.Goals as goal

pub returns : goal.returns
returns g c = record { made = made_alike g.W.Work.gives g.W.Look.is_of c.args.work c.requires c.args.units c.args.units refl c.in_ok-works.ensures.alike c.in_ok-parts.ensures.done; error = tt }
