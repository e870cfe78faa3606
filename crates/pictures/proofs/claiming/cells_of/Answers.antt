use Rattle.std.proofs.Common.{ap, ◌∙◌, arith}
use Rattle.frozen.specs.Kept.{frozen_view}
use Rattle.model.specs.Layout.{inode_count}
use Rattle.pictures.proofs.WalkLemmas.{all_claims}
use Rattle.pictures.proofs.claiming.cells_of.Goals as goal

pub returns : goal.returns
returns c =
    let count = c.inodes-number-end.ensures.count ∙ ap inode_count c.geometry.ensures.geometry in
    all_claims c.args.frozen.now.geometry (frozen_view c.args.frozen.now) c.loop-number.number c.loop-number.cells.items (omega (arith, count, c.loop-number-test.false)) c.loop-number.invariant
