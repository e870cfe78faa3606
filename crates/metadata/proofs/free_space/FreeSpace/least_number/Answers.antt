use Rattle.std.proofs.Common.{sym, subst}
use Rattle.metadata.specs.Free.{Free, AreFreeNumbers}
use Rattle.metadata.proofs.FreeLemmas.{none_free, least_free, match_with}
use Rattle.metadata.proofs.free_space.FreeSpace.least_number.Goals as goal

pub returns : goal.returns
returns c geo view is =
    let are : AreFreeNumbers geo view c.self.inside.numbers = subst (λ (f : Free). AreFreeNumbers geo view f.numbers) (sym c.self.view_is) is.numbers in
    match_with c.least.result c.least.ensures (none_free geo view c.self.inside.numbers are) (least_free geo view c.self.inside.numbers are)
