-- The positions below the inode's blocks, and then those of its tables, are all that it uses.
use Rattle.std.proofs.Common.{◌≡◌, ◌+◌, IsTrue, ap, ap₂, ◌∙◌, refl, subst, arith}
use Rattle.model.specs.View.{Inode}
use Rattle.model.specs.Shape.{most_blocks, tables}
use Rattle.model.specs.Uses.{blocks_of, is_sound}
use Rattle.frozen.specs.Kept.{frozen_view}
use Rattle.phase_blocks.specs.Parts.{with_uses_below}
use Rattle.phase_blocks.proofs.Scanning.{none_below, one_below, to_tables, all_below}
use Rattle.phase_blocks.proofs.scan.look_at_uses.Goals as goal

pub loop-position-init : goal.loop-position-init
loop-position-init c = λ inodes uses h. none_below c.args.frozen.now.geometry (frozen_view c.args.frozen.now) inodes uses c.args.number c.args.part.now h

pub loop-position-preserved : goal.loop-position-preserved
loop-position-preserved c = λ inodes uses h.
    one_below c.args.frozen.now.geometry (frozen_view c.args.frozen.now) inodes uses c.args.number c.look_at_use.new.part c.loop-position.position _ refl
    (c.in_ok-look_at_use.ensures.looked inodes (with_uses_below uses c.args.number c.loop-position.position) (c.loop-position.invariant inodes uses h))

pub loop-table-init : goal.loop-table-init
loop-table-init c = λ inodes uses h.
    let geo = c.args.frozen.now.geometry in
    let view = frozen_view c.args.frozen.now in
    let last : c.loop-position.position ≡ c.blocks-position-end.result = omega arith in
    let count = last ∙ c.blocks-position-end.ensures ∙ ap (λ (n : Inode). blocks_of n.size) c.requires.inode in
    let first = c.most_blocks-table.ensures.count ∙ ap most_blocks c.geometry-geometry.ensures.geometry in
    to_tables geo view inodes uses c.args.number c.loop-position.part c.loop-position.position c.most_blocks-table.result count first
    (subst (λ n. IsTrue (is_sound geo n)) c.requires.inode c.requires.sound) (c.loop-position.invariant inodes uses h)

pub loop-table-preserved : goal.loop-table-preserved
loop-table-preserved c = λ inodes uses h.
    one_below c.args.frozen.now.geometry (frozen_view c.args.frozen.now) inodes uses c.args.number c.look_at_use-in-loop-table.new.part c.loop-table.table _ refl
    (c.in_ok-look_at_use-2.ensures.looked inodes (with_uses_below uses c.args.number c.loop-table.table) (c.loop-table.invariant inodes uses h))

pub returns-clause-looked : goal.returns-clause-looked
returns-clause-looked c = λ inodes uses h.
    let geo = c.args.frozen.now.geometry in
    let last : c.loop-table.table ≡ c.tables_end-table-end.result = omega arith in
    let blocks = c.blocks-2.ensures ∙ ap (λ (n : Inode). blocks_of n.size) c.requires.inode in
    let end = last ∙ c.tables_end-table-end.ensures.end ∙ ap₂ (λ geo n. most_blocks geo + tables n) c.geometry-geometry.ensures.geometry blocks in
    all_below geo (frozen_view c.args.frozen.now) inodes uses c.args.number c.loop-table.part c.loop-table.table end (c.loop-table.invariant inodes uses h)
