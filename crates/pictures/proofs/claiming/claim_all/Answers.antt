-- The claims at the positions of the inode's blocks, and then those of its tables, are all that it has.
use Rattle.std.proofs.Common.{◌≡◌, ◌+◌, IsTrue, IsFalse, sym, ap, ap₂, ◌∙◌, arith}
use Rattle.frozen.specs.Kept.{frozen_view}
use Rattle.model.specs.Shape.{most_blocks, tables}
use Rattle.model.specs.Uses.{is_sound_at}
use Rattle.pictures.proofs.WalkLemmas.{next_inode_of_sound, next_inode_of_unsound, to_tables}
use Rattle.pictures.proofs.claiming.claim_all.Goals as goal

pub returns-then-not-is_sound_at : goal.returns-then-not-is_sound_at
returns-then-not-is_sound_at c =
    let geo = c.args.frozen.now.geometry in
    let view = frozen_view c.args.frozen.now in
    let unsound : IsFalse (is_sound_at geo view c.args.number) = sym c.is_sound_at.ensures ∙ c.if-not-is_sound_at.true in
    next_inode_of_unsound geo view c.args.number c.args.cells.now.items unsound c.requires

pub loop-table-init : goal.loop-table-init
loop-table-init c =
    let geo = c.args.frozen.now.geometry in
    let view = frozen_view c.args.frozen.now in
    let sound : IsTrue (is_sound_at geo view c.args.number) = sym c.is_sound_at.ensures ∙ c.if-not-is_sound_at.false in
    let last : c.loop-position.position ≡ c.blocks-blocks.result = omega arith in
    let count = last ∙ c.blocks-blocks.ensures in
    let first = c.most_blocks-table.ensures.count ∙ ap most_blocks c.geometry-geometry.ensures.geometry in
    to_tables geo view c.args.number c.loop-position.position c.most_blocks-table.result c.loop-position.cells.items sound count first c.loop-position.invariant

pub returns : goal.returns
returns c =
    let geo = c.args.frozen.now.geometry in
    let last : c.loop-table.table ≡ c.tables_end-table-end.result = omega arith in
    let blocks = c.blocks-blocks.ensures in
    let end = last ∙ c.tables_end-table-end.ensures.end ∙ ap₂ (λ geo n. most_blocks geo + tables n) c.geometry-geometry.ensures.geometry blocks in
    next_inode_of_sound geo (frozen_view c.args.frozen.now) c.args.number c.loop-table.table c.loop-table.cells.items end c.loop-table.invariant
