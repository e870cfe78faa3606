use Rattle.fsck.proofs.OrderLemmas.{kept_order, kept_members}
use Rattle.fsck.proofs.order.in_order.Goals as goal

pub returns-clause-order : goal.returns-clause-order
returns-clause-order g c =
    kept_order c.args.found c.as_mut_slice.result.now c.par_sort.new.s c.dedup.new.self.items c.as_mut_slice.ensures.value c.as_mut_slice.ensures.len
    c.par_sort.ensures.len c.dedup.ensures.filtered c.in_ok-par_sort.ensures.sorted

pub returns-clause-same : goal.returns-clause-same
returns-clause-same g c =
    kept_members c.args.found c.as_mut_slice.result.now c.par_sort.new.s c.dedup.new.self.items c.as_mut_slice.ensures.value c.as_mut_slice.ensures.len
    c.par_sort.ensures.len c.dedup.ensures.filtered c.par_sort.ensures.permutation
