use Rattle.std.proofs.Common.{◌∙◌, sym, ap, subst, IsTrue}
use Rattle.model.specs.Layout.{Geometry, group_block}
use Rattle.model.specs.Image.{IsGroupBlock}
use Rattle.frozen.specs.Kept.{is_frame, kept_bytes}
use Rattle.frozen.proofs.FrozenLemmas.{maps_are_frame}
use Rattle.frozen.proofs.held.Held.maps_of.Goals as goal

pub frame_block-requires : goal.frame_block-requires
frame_block-requires c =
    subst (λ a. IsTrue (is_frame c.args.self.now.geometry a)) (sym (c.group_block.ensures.address ∙ ap (λ (geo : Geometry). group_block geo c.args.group) c.geometry.ensures.geometry))
    (maps_are_frame c.args.self.now c.geometry.ensures.frame c.args.group c.requires)

pub returns-clause-maps : goal.returns-clause-maps
returns-clause-maps c =
    c.frame_block.ensures ∙ ap (kept_bytes c.args.self.now.blocks) (c.group_block.ensures.address ∙ ap (λ (geo : Geometry). group_block geo c.args.group) c.geometry.ensures.geometry)

pub returns-clause-is_maps : goal.returns-clause-is_maps
returns-clause-is_maps c = subst (IsGroupBlock c.args.group) (sym (returns-clause-maps c)) (c.geometry.ensures.frame.group_blocks c.args.group c.requires)
