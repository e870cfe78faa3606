use Rattle.std.proofs.Common.{◌≡◌, refl, ap, ◌∙◌, rules}
use Rattle.byteorder.specs.Endian.{little_bytes}
use Rattle.model.specs.View.{inode_at}
use Rattle.inode.proofs.RecordBytes.{part_written, with_double}
use Rattle.inode.proofs.write_double.Goals as goal

pub returns : goal.returns
returns c = λ inode before.
    let bytes = c.args.bytes.now in
    ap (λ xs. inode_at 2 xs 0) (part_written 60 4 (little_bytes 4 c.args.pointer) bytes c.write_u32.new.buf refl c.write_u32.ensures)
    ∙ with_double bytes c.told-bytes inode c.args.pointer (search rules) before
