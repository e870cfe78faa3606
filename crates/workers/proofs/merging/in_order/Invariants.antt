use Rattle.std.proofs.Common.{◌≡◌, vec_len}
use Rattle.workers.proofs.MergeLemmas.{IsMerging}
use Rattle.workers.proofs.merging.in_order.Given as goal

abbrev pub invariant-loop-unit : goal.invariant-loop-unit
invariant-loop-unit g l = record {
  parts : vec_len l.parts ≡ l.unit;
  merging : IsMerging (λ list. list.items) l.fn.lists.items l.lists.items l.parts.items;
}
