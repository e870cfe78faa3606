use Rattle.std.proofs.Common.{◌≡◌, sym, ap, ◌∙◌, subst, arith, Some}
use Rattle.std.proofs.lemmas.Option.{none-some, same_Some}
use Rattle.model.specs.Uses.{claim_at}
use Rattle.model.proofs.Addresses.{data_range}
use Rattle.model.proofs.UseLemmas.{claim_from, claim_parts}
use Rattle.frozen.specs.Kept.{Kept, KeepsClaim, frozen_view, kept_at}
use Rattle.frozen.specs.Loading.{AreBlocksOf}
use Rattle.frozen.proofs.KeepingLemmas.{none_if_none, some_if_not_none, put_claimed, put_blocks_of}
use Rattle.frozen.proofs.loading.keep_claimed.Goals as goal

pub read-requires : goal.read-requires
read-requires g c =
    let kept = c.args.held.now in
    let claim = claim_parts kept.geometry (frozen_view kept) c.args.number c.args.position c.in-Some.address (sym c.claim_at.ensures ∙ c.in-Some.is) in
    omega (arith, (data_range kept.geometry c.block.ensures.frame.geometry c.in-Some.address claim.1).1, c.requires)

pub keep-requires : goal.keep-requires
keep-requires g c =
    let kept = c.args.held.now in
    (claim_parts kept.geometry (frozen_view kept) c.args.number c.args.position c.in-Some.address (sym c.claim_at.ensures ∙ c.in-Some.is)).1

pub returns-in_ok-keep-in-Some-clause-claim : goal.returns-in_ok-keep-in-Some-clause-claim
returns-in_ok-keep-in-Some-clause-claim g c =
    let kept = c.args.held.now in
    let claimed : claim_at kept.geometry (frozen_view kept) c.args.number c.args.position ≡ Some c.in-Some.address = sym c.claim_at.ensures ∙ c.in-Some.is in
    subst (λ (k : Kept). KeepsClaim k c.args.number c.args.position) (sym c.in_ok-keep-in-Some.ensures.ok)
    (put_claimed kept c.block.ensures.frame c.in-Some.address c.read.new.to (claim_parts kept.geometry (frozen_view kept) c.args.number c.args.position c.in-Some.address claimed).1
    (none_if_none c.block.result c.is_none.result (kept_at kept.blocks c.in-Some.address) (λ x. x.now) c.is_none.ensures c.if-is_none.true c.block.ensures.block) c.args.number c.args.position claimed)

pub returns-in_ok-keep-in-Some-clause-blocks : goal.returns-in_ok-keep-in-Some-clause-blocks
returns-in_ok-keep-in-Some-clause-blocks g c = λ honest are.
    let kept = c.args.held.now in
    let image = g.D.Device.image c.args.device.now in
    let claim = claim_parts kept.geometry (frozen_view kept) c.args.number c.args.position c.in-Some.address (sym c.claim_at.ensures ∙ c.in-Some.is) in
    subst (λ (k : Kept). AreBlocksOf k.blocks image) (sym c.in_ok-keep-in-Some.ensures.ok)
    (put_blocks_of kept c.block.ensures.frame c.in-Some.address c.read.new.to claim.1 image are (c.in_ok-read-in-Some.ensures.block honest))

pub returns-in_default-clause-claim : goal.returns-in_default-clause-claim
returns-in_default-clause-claim g c = λ a claim.
    let kept = c.args.held.now in
    let same = same_Some a c.in-Some.address (sym (claim_from kept.geometry (frozen_view kept) c.args.number c.args.position a claim) ∙ sym c.claim_at.ensures ∙ c.in-Some.is) in
    some_if_not_none c.block.result c.is_none.result (kept_at kept.blocks a) (λ x. x.now) c.is_none.ensures c.if-is_none.false (c.block.ensures.block ∙ ap (kept_at kept.blocks) (sym same))

pub returns-in_default-2-clause-claim : goal.returns-in_default-2-clause-claim
returns-in_default-2-clause-claim g c = λ a claim.
    let kept = c.args.held.now in
    absurd (none-some a (sym c.in_default.is ∙ c.claim_at.ensures ∙ claim_from kept.geometry (frozen_view kept) c.args.number c.args.position a claim))
