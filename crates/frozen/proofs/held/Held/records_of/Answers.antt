use Rattle.std.proofs.Common.{◌∙◌, sym, ap, subst, IsTrue}
use Rattle.model.specs.Layout.{Geometry, inode_block}
use Rattle.model.proofs.Addresses.{count_in_group}
use Rattle.frozen.specs.Kept.{is_frame, kept_bytes}
use Rattle.frozen.proofs.FrozenLemmas.{records_are_frame}
use Rattle.frozen.proofs.held.Held.records_of.Goals as goal

pub frame_block-requires : goal.frame_block-requires
frame_block-requires c =
    let frame = c.geometry.ensures.frame in
    subst (λ a. IsTrue (is_frame c.args.self.now.geometry a)) (sym (c.inode_place.ensures.address ∙ ap (λ (geo : Geometry). inode_block geo c.args.number) c.geometry.ensures.geometry))
    (records_are_frame c.args.self.now frame c.args.number (count_in_group c.args.self.now.geometry frame.geometry c.args.number c.requires))

pub returns : goal.returns
returns c =
    c.frame_block.ensures ∙ ap (kept_bytes c.args.self.now.blocks) (c.inode_place.ensures.address ∙ ap (λ (geo : Geometry). inode_block geo c.args.number) c.geometry.ensures.geometry)
