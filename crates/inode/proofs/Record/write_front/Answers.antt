use Rattle.std.proofs.Common.{◌≡◌, length, drop, slice_index, refl, ap, ◌∙◌, rules}
use Rattle.byteorder.specs.Endian.{little_bytes}
use Rattle.model.specs.View.{Inode, inode_at}
use Rattle.inode.proofs.RecordBytes.{numbers_put, part_written, written_record, written_rest}
use Rattle.inode.proofs.Record.write_front.Goals as goal

pub returns-clause-read : goal.returns-clause-read
returns-clause-read c = λ words same.
    let r = c.self.inside in
    let bytes = c.args.bytes.now in
    let before = numbers_put r.mode r.links r.size bytes c.told-bytes c.write_u16.new.buf c.write_u16-2.new.buf c.write_u32.new.buf c.write_u16.ensures c.write_u16-2.ensures c.write_u32.ensures in
    let direct_long : length c.write_direct.new.bytes ≡ 128 = search rules in
    ap (λ xs. inode_at 1 xs 0) (part_written 56 4 (little_bytes 4 r.indirect) c.write_direct.new.bytes c.write_u32-2.new.buf refl c.write_u32-2.ensures)
    ∙ written_record r.mode r.links r.size bytes c.told-bytes r.direct c.write_direct.new.bytes direct_long c.write_direct.ensures.read
    (λ k apart. c.write_direct.ensures.rest k apart ∙ ap (λ xs. slice_index xs k) before) r.indirect words same (search rules) (search rules) (search rules) (search rules)
    ∙ ap (λ (n : Inode). record n { double = 0; attributes = words }) c.self.view_is

pub returns-clause-rest : goal.returns-clause-rest
returns-clause-rest c =
    let r = c.self.inside in
    let bytes = c.args.bytes.now in
    let before = numbers_put r.mode r.links r.size bytes c.told-bytes c.write_u16.new.buf c.write_u16-2.new.buf c.write_u32.new.buf c.write_u16.ensures c.write_u16-2.ensures c.write_u32.ensures in
    ap (drop 60) (part_written 56 4 (little_bytes 4 r.indirect) c.write_direct.new.bytes c.write_u32-2.new.buf refl c.write_u32-2.ensures)
    ∙ written_rest r.mode r.links r.size bytes c.told-bytes r.direct c.write_direct.new.bytes (search rules) c.write_direct.ensures.read
    (λ k apart. c.write_direct.ensures.rest k apart ∙ ap (λ xs. slice_index xs k) before) r.indirect
