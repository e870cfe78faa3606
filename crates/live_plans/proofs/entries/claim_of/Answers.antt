-- An inode that is looked at claims what its record uses, if that is a data block's address.
use Rattle.std.proofs.Common.{sym, ap, ◌∙◌}
use Rattle.frozen.specs.Kept.{frozen_view}
use Rattle.model.specs.Layout.{is_data_address}
use Rattle.model.specs.Uses.{record_use}
use Rattle.model.proofs.UseLemmas.{claim_from, no_claim_of_use, no_use_no_claim, use_of_record}
use Rattle.live_plans.proofs.entries.claim_of.Goals as goal

pub returns-in_err-address : goal.returns-in_err-address
returns-in_err-address c = λ i on same.
    let kept = c.args.frozen.now in
    c.from_residual.ensures
    ∙ sym (no_use_no_claim kept.geometry (frozen_view kept) i c.args.position
    (use_of_record kept.geometry (frozen_view kept) i c.args.position on ∙ ap (λ n. record_use kept.geometry (frozen_view kept) n c.args.position) same ∙ sym c.use_of.ensures ∙ c.in_err-address.was))

pub returns-then-is_some : goal.returns-then-is_some
returns-then-is_some c = λ i on same.
    let kept = c.args.frozen.now in
    sym (claim_from kept.geometry (frozen_view kept) i c.args.position c.in_ok-address.address (
      use_of_record kept.geometry (frozen_view kept) i c.args.position on ∙ ap (λ n. record_use kept.geometry (frozen_view kept) n c.args.position) same ∙ sym c.use_of.ensures ∙ c.in_ok-address.was,
      ap (λ geo. is_data_address geo c.in_ok-address.address) (sym c.geometry.ensures.geometry) ∙ sym c.place_of.ensures.exactly ∙ sym c.is_some.ensures ∙ c.if-is_some.true,
    ))

pub returns-else-is_some : goal.returns-else-is_some
returns-else-is_some c = λ i on same.
    let kept = c.args.frozen.now in
    sym (no_claim_of_use kept.geometry (frozen_view kept) i c.args.position c.in_ok-address.address
    (use_of_record kept.geometry (frozen_view kept) i c.args.position on ∙ ap (λ n. record_use kept.geometry (frozen_view kept) n c.args.position) same ∙ sym c.use_of.ensures ∙ c.in_ok-address.was)
    (ap (λ geo. is_data_address geo c.in_ok-address.address) (sym c.geometry.ensures.geometry) ∙ sym c.place_of.ensures.exactly ∙ sym c.is_some.ensures ∙ c.if-is_some.false))
