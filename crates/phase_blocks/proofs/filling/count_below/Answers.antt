use Rattle.std.proofs.Common.{ltb, rules}
use Rattle.std.proofs.lemmas.List.Sorted.{IsPartitionPoint-from_clause}
use Rattle.phase_blocks.proofs.FillLemmas.{parted, point_of}
use Rattle.phase_blocks.proofs.filling.count_below.Goals as goal

pub returns-clause-below : goal.returns-clause-below
returns-clause-below c = λ sorted.
    let point = IsPartitionPoint-from_clause (λ claim. ltb claim.block c.args.block) _ _ c.partition_point.ensures.partitioned (parted c.args.claims.now c.args.block sorted) (λ a r q k. search rules) in
    point_of c.args.claims.now c.args.block c.partition_point.result point
