use Rattle.dirent.proofs.SlotBytes.{entry_written}
use Rattle.dirent.proofs.entry.Goals as goal

pub returns : goal.returns
returns c = entry_written c.args.number c.args.name.now c.copy_from_slice.new.self c.write_u32.new.buf c.write_u32.ensures c.copy_from_slice.ensures.after c.requires
