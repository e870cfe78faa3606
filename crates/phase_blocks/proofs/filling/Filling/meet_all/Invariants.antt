use Rattle.std.proofs.Common.{◌≡◌, ◌++◌, List, take}
use Rattle.phase_blocks.specs.declared.parts.Claim.{Claim}
use Rattle.phase_blocks.specs.Owners.{HoldsOf}
use Rattle.phase_blocks.proofs.filling.Filling.meet_all.Given as goal

abbrev pub invariant-loop-claim : goal.invariant-loop-claim
invariant-loop-claim l = record {
  geometry : l.self.geometry ≡ l.fn.self.geometry;
  group : l.self.group ≡ l.fn.self.group;
  met : (seen : List Claim) → HoldsOf seen l.fn.self → HoldsOf (seen ++ take l.claim-index l.claims) l.self;
}
