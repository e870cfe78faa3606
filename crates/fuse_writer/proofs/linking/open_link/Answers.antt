use Rattle.std.proofs.Common.{refl}
use Rattle.std.proofs.lemmas.Result.{err_from_is_err_and}
use Rattle.fuse_writer.proofs.LinkLemmas.{opens_link_by}
use Rattle.fuse_writer.proofs.linking.open_link.Goals as goal

pub returns-in-Ok-clause-does : goal.returns-in-Ok-clause-does
returns-in-Ok-clause-does g c =
    let mid = c.ask_number.new.self in
    opens_link_by _ mid.asking _ _ _ _ c.args.directory c.args.name.now c.args.number c.args.target.now c.args.path.items _ c.ask_number.result _ c.ask_number.ensures.asked refl c.in-Ok.is
    (rw c.ask_number.ensures.session at c.put_target.ensures.does)

pub returns-in-Err-clause-does : goal.returns-in-Err-clause-does
returns-in-Err-clause-does g c =
    let mid = c.ask_number.new.self in
    opens_link_by _ mid.asking _ _ _ _ c.args.directory c.args.name.now c.args.number c.args.target.now c.args.path.items _ c.ask_number.result _ c.ask_number.ensures.asked refl c.in-Err.is
    (rw c.ask_number.ensures.session at c.take_away.ensures.does)
