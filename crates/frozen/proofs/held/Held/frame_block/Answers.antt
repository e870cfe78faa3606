-- The frame is kept, so its blocks are there.
use Rattle.std.proofs.Common.{◌≡◌, subst, sym, IsSome, false, true}
use Rattle.frozen.proofs.held.Held.frame_block.Goals as goal

pub unreachable-requires : goal.unreachable-requires
unreachable-requires c =
    let none : false ≡ true = subst IsSome (sym c.in-None.ensures.block) (c.block.ensures.frame.frame c.args.address c.requires) in cc
