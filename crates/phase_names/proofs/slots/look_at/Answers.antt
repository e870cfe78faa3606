-- No slot stands past the last block.
use Rattle.std.proofs.Common.{◌≡◌, ◌*◌, ap, ◌∙◌, arith}
use Rattle.frozen.specs.Kept.{frozen_view}
use Rattle.model.specs.Uses.{blocks_of}
use Rattle.model.proofs.NamedLemmas.{no_slot_past}
use Rattle.phase_names.specs.Told.{Told}
use Rattle.phase_names.specs.Walks.{Walked}
use Rattle.phase_names.proofs.WalkLemmas.{few_blocks, walked_told}
use Rattle.phase_names.proofs.slots.look_at.Goals as goal

pub returns-clause-told : goal.returns-clause-told
returns-clause-told c =
    let geo = c.args.frozen.now.geometry in
    let view = frozen_view c.args.frozen.now in
    let d = c.args.directory in
    let blocks = c.blocks-position-end.ensures in
    let few = few_blocks geo view d c.requires in
    let at_end : c.loop-position.position ≡ blocks_of (view.inode d).size = omega arith in
    walked_told geo view d (16 * c.loop-position.position) (λ q from. no_slot_past geo view d q (omega (arith, from, at_end))) c.loop-position.walk c.new.result
    (omega (arith, at_end, few)) (ap (λ (t : Told). t.findings) c.new.ensures ∙ ap (λ (w : Walked). w.findings) c.walk-2.view_is)
    (ap (λ (t : Told). t.parent) c.new.ensures ∙ c.number_in-parent.ensures)
    (ap (λ (t : Told). t.directories) c.new.ensures ∙ ap (λ (w : Walked). w.directories) c.walk-2.view_is) c.loop-position.invariant
