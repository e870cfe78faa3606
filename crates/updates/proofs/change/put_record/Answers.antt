use Rattle.std.proofs.Common.{◌≡◌, length, rules}
use Rattle.updates.proofs.RecordPuts.{written_there, others_stay, record_changed}
use Rattle.updates.proofs.change.put_record.Goals as goal

pub returns-clause-written : goal.returns-clause-written
returns-clause-written c =
    let long : length c.write_record.new.bytes ≡ 128 = search rules in
    written_there c.args.geometry.now.version c.args.place c.requires.place c.args.block.now c.write_record.new.bytes c.told-block long c.args.inode.now c.write_record.ensures.read

pub returns-clause-others : goal.returns-clause-others
returns-clause-others c =
    let long : length c.write_record.new.bytes ≡ 128 = search rules in
    others_stay c.args.geometry.now.version c.args.place c.requires.place c.args.block.now c.write_record.new.bytes c.told-block long

pub returns-clause-alone : goal.returns-clause-alone
returns-clause-alone c =
    let long : length c.write_record.new.bytes ≡ 128 = search rules in
    record_changed c.args.geometry.now.version c.args.place c.requires.place c.args.block.now c.write_record.new.bytes c.told-block long c.args.inode.now c.write_record.ensures.freed c.write_record.ensures.kept
