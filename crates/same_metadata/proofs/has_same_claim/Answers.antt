use Rattle.std.proofs.Common.{sym, refl, ◌∙◌}
use Rattle.same_metadata.proofs.BlockLemmas.{one_claim, no_claim}
use Rattle.same_metadata.proofs.has_same_claim.Goals as goal

pub returns-in-Some : goal.returns-in-Some
returns-in-Some c =
    one_claim c.args.one.now c.args.other.now c.requires c.args.number c.args.position c.in-Some.address (sym c.claim_at.ensures ∙ c.in-Some.is) c.has_same_block.result c.has_same_block.ensures

pub returns-in-None : goal.returns-in-None
returns-in-None c =
    ((λ _. no_claim c.args.one.now c.args.other.now c.requires c.args.number c.args.position (sym c.claim_at.ensures ∙ c.in-None.is)), (λ _. refl))
