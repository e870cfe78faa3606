use Rattle.std.proofs.Common.{◌≡◌, All, take}
use Rattle.std.specs.List.{flat_map}
use Rattle.std.specs.List.Sorted.{IsStrictlySortedBy}
use Rattle.phase_blocks.specs.Parts.{claim_cmp}
use Rattle.phase_blocks.specs.Owners.{HoldsOf}
use Rattle.phase_blocks.proofs.filling.filled.Given as goal

abbrev pub invariant-loop-part : goal.invariant-loop-part
invariant-loop-part l = record {
  geometry : l.table.geometry ≡ l.fn.geometry;
  group : l.table.group ≡ l.fn.group;
  filled : All (λ part. IsStrictlySortedBy claim_cmp part.claims) l.parts → HoldsOf (flat_map (λ part. part.claims) (take l.part-index l.parts)) l.table;
}
