-- The block goes, if there is one.
use Rattle.std.proofs.Common.{sym, ◌∙◌}
use Rattle.model.proofs.UseLemmas.{claim_parts}
use Rattle.frozen.specs.Kept.{frozen_view}
use Rattle.live_snapshots.proofs.Freeing.{block_goes, nothing_goes}
use Rattle.live_snapshots.proofs.orphans.free_at.Goals as goal

pub returns-in_ok-push : goal.returns-in_ok-push
returns-in_ok-push c =
    let geo = c.args.frozen.now.geometry in
    let view = frozen_view c.args.frozen.now in
    let claim = sym c.claim_at.ensures ∙ c.in-Some.is in
    block_goes geo view c.args.number c.args.position c.in-Some.block c.args.updates.now.items c.push.new.updates.items claim
    (claim_parts geo view c.args.number c.args.position c.in-Some.block claim).1 c.in_ok-push.ensures

pub returns-in_default : goal.returns-in_default
returns-in_default c = nothing_goes c.args.frozen.now.geometry (frozen_view c.args.frozen.now) c.args.number c.args.position c.args.updates.now.items (sym c.claim_at.ensures ∙ c.in_default.is)
