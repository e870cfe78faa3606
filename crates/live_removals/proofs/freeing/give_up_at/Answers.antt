-- The block is a claim, so a block for data.
use Rattle.std.proofs.Common.{IsTrue, sym, ◌∙◌, subst}
use Rattle.model.specs.Layout.{Geometry, is_data_address}
use Rattle.model.proofs.UseLemmas.{claim_parts}
use Rattle.frozen.specs.Kept.{frozen_view}
use Rattle.live_removals.proofs.freeing.give_up_at.Goals as goal

pub push-requires-else-keeps-clause-changed : goal.push-requires-else-keeps-clause-changed
push-requires-else-keeps-clause-changed c =
    subst (λ (g : Geometry). IsTrue (is_data_address g c.in-Some.block)) (sym c.requires.geometry)
    (claim_parts c.args.frozen.now.geometry (frozen_view c.args.frozen.now) c.args.number c.args.position c.in-Some.block (sym c.claim_at.ensures ∙ c.in-Some.is)).1
