-- The claim that the inode has at the position, or none.
use Rattle.std.proofs.Common.{◌≡◌, ◌+◌, get_or, set, sym, ap₂, ◌∙◌, subst, arith}
use Rattle.frozen.specs.Kept.{frozen_view}
use Rattle.model.specs.Uses.{IsClaim}
use Rattle.model.proofs.UseLemmas.{claim_from, claim_parts}
use Rattle.pictures.specs.Uses.{purpose}
use Rattle.pictures.specs.Walk.{ShowBefore, claimed_again}
use Rattle.pictures.proofs.SetLemmas.{data_low}
use Rattle.pictures.proofs.WalkLemmas.{claim_here, no_claim_here}
use Rattle.pictures.proofs.claiming.claim.Goals as goal

pub index-requires : goal.index-requires
index-requires c =
    let geo = c.args.frozen.now.geometry in
    let view = frozen_view c.args.frozen.now in
    let claim : IsClaim geo view c.args.number c.args.position c.in-Some.address = claim_parts geo view c.args.number c.args.position c.in-Some.address (sym c.claim_at.ensures ∙ c.in-Some.is) in
    omega (arith, data_low geo c.in-Some.address claim.1, c.requires.count)

pub index_mut-requires : goal.index_mut-requires
index_mut-requires c =
    let geo = c.args.frozen.now.geometry in
    let view = frozen_view c.args.frozen.now in
    let claim : IsClaim geo view c.args.number c.args.position c.in-Some.address = claim_parts geo view c.args.number c.args.position c.in-Some.address (sym c.claim_at.ensures ∙ c.in-Some.is) in
    omega (arith, data_low geo c.in-Some.address claim.1, c.requires.count)

pub returns-in-Some : goal.returns-in-Some
returns-in-Some c =
    let geo = c.args.frozen.now.geometry in
    let view = frozen_view c.args.frozen.now in
    let claim : IsClaim geo view c.args.number c.args.position c.in-Some.address = claim_parts geo view c.args.number c.args.position c.in-Some.address (sym c.claim_at.ensures ∙ c.in-Some.is) in
    let cells = c.args.cells.now.items in
    let old = c.index.result.now in
    let there : get_or cells c.in-Some.address old ≡ old = sym c.index.ensures in
    let value : claimed_again (get_or cells c.in-Some.address old) (purpose geo view c.args.number c.args.position) ≡ c.claimed_again.result =
    ap₂ claimed_again there (sym c.purpose.ensures) ∙ sym c.claimed_again.ensures in
    subst (λ v. ShowBefore geo view c.args.number (c.args.position + 1) (set cells c.in-Some.address v)) value
    (claim_here geo view c.args.number c.args.position c.in-Some.address claim cells c.requires old)

pub returns-in_default : goal.returns-in_default
returns-in_default c =
    let geo = c.args.frozen.now.geometry in
    let view = frozen_view c.args.frozen.now in
    no_claim_here geo view c.args.number c.args.position c.args.cells.now.items
    (λ a h. c.in_default.not-Some a (c.claim_at.ensures ∙ claim_from geo view c.args.number c.args.position a h)) c.requires
