use Rattle.std.proofs.Common.{◌*◌, drop, ◌∙◌, refl, arith}
use Rattle.byteorder.specs.Numbers.{little_from-take}
use Rattle.layout.proofs.PutLemmas.{same_inode}
use Rattle.inode.proofs.Record.read_head.Goals as goal

pub returns : goal.returns
returns c = λ version.
    let bytes = c.args.bytes.now in
    same_inode (c.mode_of.ensures version) (c.read_u16.ensures ∙ little_from-take 0 2 126 (drop 2 bytes) (omega arith))
    (c.read_u32.ensures ∙ little_from-take 0 4 124 (drop 4 bytes) (omega arith)) refl refl refl refl
