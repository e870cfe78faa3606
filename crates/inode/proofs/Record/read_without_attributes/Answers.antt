use Rattle.std.proofs.Common.{◌*◌, drop, ◌∙◌, refl, arith}
use Rattle.byteorder.specs.Numbers.{little_from-take}
use Rattle.layout.proofs.PutLemmas.{same_inode}
use Rattle.inode.proofs.RecordBytes.{numbers_read, number_in_part}
use Rattle.inode.proofs.Record.read_without_attributes.Goals as goal

pub returns : goal.returns
returns c =
    let bytes = c.args.bytes.now in
    same_inode
    (c.mode_of.ensures c.args.version)
    (c.read_u16.ensures ∙ little_from-take 0 2 126 (drop 2 bytes) (omega arith))
    (c.read_u32.ensures ∙ little_from-take 0 4 124 (drop 4 bytes) (omega arith))
    (numbers_read 12 8 c.read_u32_into.new.dst bytes c.read_u32_into.auto.dst
    (λ k b. c.read_u32_into.ensures k (omega (arith, c.read_u32_into.auto.dst)) ∙ number_in_part 8 48 (4 * k) bytes (omega arith)))
    (c.read_u32-2.ensures ∙ little_from-take 0 4 72 (drop 56 bytes) (omega arith))
    c.double_of.ensures
    refl
