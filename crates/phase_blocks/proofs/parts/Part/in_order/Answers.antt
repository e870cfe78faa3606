-- The claims are sorted, and nothing else is touched.
use Rattle.std.proofs.Common.{◌↔◌, List, Contains, ap, subst}
use Rattle.phase_blocks.specs.declared.parts.Claim.{Claim}
use Rattle.phase_blocks.specs.Parts.{Gathered}
use Rattle.phase_blocks.proofs.ClaimOrder.{by_key, claim_exact}
use Rattle.phase_blocks.proofs.parts.Part.in_order.Goals as goal

pub returns-clause-order : goal.returns-clause-order
returns-clause-order c = by_key c.in_ok-claims.claims.items c.in_ok-claims.ensures.order

pub returns-clause-same : goal.returns-clause-same
returns-clause-same c =
    subst (λ (cs : List Claim). (d : Claim) → Contains c.in_ok-claims.claims.items d ↔ Contains cs d) (ap (λ (g : Gathered). g.claims) c.self.view_is)
    (c.in_ok-claims.ensures.same claim_exact)
