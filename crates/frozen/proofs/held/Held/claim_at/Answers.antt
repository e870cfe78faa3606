use Rattle.std.proofs.Common.{◌∙◌, sym, ap}
use Rattle.model.specs.Layout.{Geometry, is_data_address}
use Rattle.model.proofs.UseLemmas.{claim_from, no_claim_of_use, no_use_no_claim}
use Rattle.frozen.specs.Kept.{frozen_view}
use Rattle.frozen.proofs.held.Held.claim_at.Goals as goal

pub returns-in-Some : goal.returns-in-Some
returns-in-Some c =
    let kept = c.args.self.now in
    sym (claim_from kept.geometry (frozen_view kept) c.args.inode c.args.position c.in-Some.address (sym c.use_at.ensures ∙ c.in-Some.is, ap (λ (geo : Geometry). is_data_address geo c.in-Some.address) (sym c.geometry.ensures.geometry) ∙ sym c.place_of.ensures.exactly ∙ sym c.is_some.ensures ∙ c.if-is_some.true))

pub returns-in_default : goal.returns-in_default
returns-in_default c =
    let kept = c.args.self.now in
    sym (no_claim_of_use kept.geometry (frozen_view kept) c.args.inode c.args.position c.in-Some.address (sym c.use_at.ensures ∙ c.in-Some.is) (ap (λ (geo : Geometry). is_data_address geo c.in-Some.address) (sym c.geometry.ensures.geometry) ∙ sym c.place_of.ensures.exactly ∙ sym c.is_some.ensures ∙ c.if-is_some.false))

pub returns-in_default-2 : goal.returns-in_default-2
returns-in_default-2 c =
    let kept = c.args.self.now in
    sym (no_use_no_claim kept.geometry (frozen_view kept) c.args.inode c.args.position (sym c.use_at.ensures ∙ c.in_default.is))
