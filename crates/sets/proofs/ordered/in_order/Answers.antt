use Rattle.std.proofs.lemmas.List.Filters.{dedup_is}
use Rattle.sets.proofs.OrderLemmas.{strictly, same_members}
use Rattle.sets.proofs.ordered.in_order.Goals as goal

pub returns-clause-order : goal.returns-clause-order
returns-clause-order g c =
    strictly g.T.Ord.cmp g.met.T.Ord.total g.T.PartialEq.eq g.met.T.Ord.matches_eq c.sort.new.self.items c.dedup.new.self.items c.in_ok-sort.ensures.sorted
    (dedup_is g.T.PartialEq.eq c.sort.new.self.items c.dedup.new.self.items c.dedup.ensures.filtered)

pub returns-clause-same : goal.returns-clause-same
returns-clause-same g c = λ exact.
    same_members g.T.Ord.cmp g.met.T.Ord.total g.T.PartialEq.eq g.met.T.Ord.matches_eq g.met.T.Eq.laws exact c.args.items.items c.sort.new.self.items c.dedup.new.self.items
    c.in_ok-sort.ensures.permutation (dedup_is g.T.PartialEq.eq c.sort.new.self.items c.dedup.new.self.items c.dedup.ensures.filtered)
