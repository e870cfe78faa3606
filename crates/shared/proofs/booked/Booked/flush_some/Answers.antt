use Rattle.std.proofs.Common.{refl}
use Rattle.shared.specs.Next.{IsNext}
use Rattle.shared.proofs.TraceLemmas.{counts_some, if_ok}
use Rattle.shared.proofs.booked.Booked.flush_some.Goals as goal

pub returns-clause-call : goal.returns-clause-call
returns-clause-call g c =
    let v = c.args.self.now.volume in
    let next : IsNext v.queue c.next_block-address.result = rw (← c.self.view_is) c.next_block-address.ensures in
    (c.next_block-address.result, next, c.call.ensures.call)

pub returns-clause-wrote : goal.returns-clause-wrote
returns-clause-wrote g c = λ h.
    let v = c.args.self.now.volume in
    let next : IsNext v.queue c.next_block-address.result = rw (← c.self.view_is) c.next_block-address.ensures in
    if_ok _ _ c.call.result (counts_some v.queue c.next_block-address.result next) (c.call.ensures.call.flushed c.next_block-address.result refl h)

pub returns-clause-known : goal.returns-clause-known
returns-clause-known g c = c.call.ensures.known
