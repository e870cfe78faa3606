use Rattle.frozen.specs.Kept.{frozen_view}
use Rattle.same_metadata.proofs.WalkLemmas.{by_inodes}
use Rattle.same_metadata.proofs.have_same_parts.Goals as goal

pub returns-then-have_same_block_bits : goal.returns-then-have_same_block_bits
returns-then-have_same_block_bits c =
    by_inodes c.args.one.now.geometry (frozen_view c.args.one.now) (frozen_view c.args.other.now) c.have_same_inodes.result
    (c.have_same_block_bits.ensures.0 c.if-have_same_block_bits.true) c.have_same_inodes.ensures
