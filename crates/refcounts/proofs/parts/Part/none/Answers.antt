use Rattle.std.proofs.Common.{arith}
use Rattle.std.proofs.lemmas.List.{length-map}
use Rattle.refcounts.proofs.PartLemmas.{all_empty}
use Rattle.refcounts.proofs.parts.Part.none.Goals as goal

pub returns-clause-groups : goal.returns-clause-groups
returns-clause-groups c = omega (arith, length-map c.loop-group.by_group.items (λ numbers. numbers.items), c.loop-group.invariant.count, c.loop-group-test.false, c.loop-group.auto._group-end)

pub returns-clause-none : goal.returns-clause-none
returns-clause-none c = all_empty c.loop-group.by_group.items c.loop-group.invariant.empty
