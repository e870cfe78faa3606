use Rattle.std.proofs.Common.{◌∙◌, arith, ap, length}
use Rattle.std.proofs.lemmas.Slice.{take-put_mid}
use Rattle.fuse_channels.proofs.message.copy_to.Goals as goal

pub returns : goal.returns
returns c =
    take-put_mid 0 _ c.args.room.now _ (length c.args.bytes.now) (omega (arith, ap length c.copy_from_slice.ensures.after)) (omega arith) ∙ c.copy_from_slice.ensures.after
