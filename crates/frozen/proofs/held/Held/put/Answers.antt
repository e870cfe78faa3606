use Rattle.std.proofs.Common.{◌≡◌, sym, ap, subst, ◌∙◌, Some, set as slice_set}
use Rattle.std.proofs.lemmas.List.{map-set}
use Rattle.std.specs.Option.{option_map}
use Rattle.std.specs.Arc.{arc_value}
use Rattle.frozen.specs.Installed.{FitsIn, with_block}
use Rattle.frozen.specs.Kept.{Kept, KeepsFrame}
use Rattle.frozen.specs.Shared.{shared_blocks}
use Rattle.frozen.proofs.FrozenLemmas.{frame_with}
use Rattle.frozen.proofs.held.Held.put.Goals as goal

pub invariant_of-self : goal.invariant_of-self
invariant_of-self c =
    let kept : Kept = record { geometry = c.self.inside.geometry; blocks = shared_blocks c.self.inside.blocks.items } in
    let is : kept ≡ c.args.self.now = c.self.view_is in
    let fits : FitsIn kept.geometry c.args.placed = subst (λ (k : Kept). FitsIn k.geometry c.args.placed) (sym is) c.requires in
    subst (λ blocks. KeepsFrame (record { geometry = c.self.inside.geometry; blocks = blocks }))
    (sym (ap (λ o. shared_blocks (slice_set c.self.inside.blocks.items c.args.placed.address o)) c.replace.ensures.after
    ∙ map-set (option_map arc_value) c.self.inside.blocks.items c.args.placed.address (Some c.args.placed.block)))
    (frame_with kept c.args.placed.address (arc_value c.args.placed.block) c.self.invariant fits.behind fits.on_volume fits.whole fits.group_block)

pub returns-clause-put : goal.returns-clause-put
returns-clause-put c =
    let kept : Kept = record { geometry = c.self.inside.geometry; blocks = shared_blocks c.self.inside.blocks.items } in
    let is : kept ≡ c.args.self.now = c.self.view_is in
    ap (λ blocks. record { geometry = c.self.inside.geometry; blocks = blocks })
    (ap (λ o. shared_blocks (slice_set c.self.inside.blocks.items c.args.placed.address o)) c.replace.ensures.after
    ∙ map-set (option_map arc_value) c.self.inside.blocks.items c.args.placed.address (Some c.args.placed.block))
    ∙ ap (λ (k : Kept). with_block k c.args.placed.address (arc_value c.args.placed.block)) is

pub returns-clause-frame : goal.returns-clause-frame
returns-clause-frame c =
    let kept : Kept = record { geometry = c.self.inside.geometry; blocks = shared_blocks c.self.inside.blocks.items } in
    let is : kept ≡ c.args.self.now = c.self.view_is in
    subst KeepsFrame (sym (returns-clause-put c))
    (frame_with c.args.self.now c.args.placed.address (arc_value c.args.placed.block) (subst KeepsFrame is c.self.invariant) c.requires.behind c.requires.on_volume c.requires.whole c.requires.group_block)
