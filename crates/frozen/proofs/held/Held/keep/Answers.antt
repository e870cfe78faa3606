use Rattle.std.proofs.Common.{◌≡◌, sym, ap, subst, ◌∙◌, IsTrue, Some, slice_set}
use Rattle.std.proofs.lemmas.List.{map-set}
use Rattle.std.specs.Option.{option_map}
use Rattle.std.specs.Arc.{arc_value}
use Rattle.model.specs.Layout.{is_data_address}
use Rattle.model.proofs.ImageLemmas.{is_block}
use Rattle.frozen.specs.Kept.{Kept, KeepsFrame}
use Rattle.frozen.specs.Shared.{shared_blocks}
use Rattle.frozen.proofs.FrozenLemmas.{frame_stays}
use Rattle.frozen.proofs.held.Held.keep.Goals as goal

pub invariant_of-self : goal.invariant_of-self
invariant_of-self c =
    let kept : Kept = record { geometry = c.self.inside.geometry; blocks = shared_blocks c.self.inside.blocks.items } in
    let is : kept ≡ c.args.self.now = c.self.view_is in
    let value : arc_value c.in_ok-shared.shared ≡ c.args.block.now = c.in_ok-shared.ensures.ok in
    subst (λ blocks. KeepsFrame (record { geometry = c.self.inside.geometry; blocks = blocks }))
    (ap (λ b. slice_set (shared_blocks c.self.inside.blocks.items) c.args.address (Some b)) (sym value) ∙ sym (map-set (option_map arc_value) c.self.inside.blocks.items c.args.address (Some c.in_ok-shared.shared)))
    (frame_stays kept c.args.address c.args.block.now c.self.invariant
    (subst (λ (k : Kept). IsTrue (is_data_address k.geometry c.args.address)) (sym is) c.requires) (is_block c.args.block.now c.told-block c.fits-block))

pub returns-clause-ok : goal.returns-clause-ok
returns-clause-ok c =
    let kept : Kept = record { geometry = c.self.inside.geometry; blocks = shared_blocks c.self.inside.blocks.items } in
    let is : kept ≡ c.args.self.now = c.self.view_is in
    let value : arc_value c.in_ok-shared.shared ≡ c.args.block.now = c.in_ok-shared.ensures.ok in
    ap (λ blocks. record { geometry = c.self.inside.geometry; blocks = blocks }) (map-set (option_map arc_value) c.self.inside.blocks.items c.args.address (Some c.in_ok-shared.shared)
    ∙ ap (λ b. slice_set (shared_blocks c.self.inside.blocks.items) c.args.address (Some b)) value)
    ∙ ap (λ (k : Kept). record { geometry = k.geometry; blocks = slice_set k.blocks c.args.address (Some c.args.block.now) }) is

pub returns-clause-frame : goal.returns-clause-frame
returns-clause-frame c =
    let kept : Kept = record { geometry = c.self.inside.geometry; blocks = shared_blocks c.self.inside.blocks.items } in
    let is : kept ≡ c.args.self.now = c.self.view_is in
    subst KeepsFrame (sym (returns-clause-ok c))
    (frame_stays c.args.self.now c.args.address c.args.block.now (subst KeepsFrame is c.self.invariant) c.requires (is_block c.args.block.now c.told-block c.fits-block))
