use Rattle.std.proofs.Common.{refl}
use Rattle.std.proofs.lemmas.Result.{err_from_is_err_and}
use Rattle.fuse_wire.specs.declared.bodies.Body.TheVariants as bodies
use Rattle.fuse_writer.proofs.DoingLemmas.{does_note, opens_new_by}
use Rattle.fuse_writer.specs.Requests.{open_file}
use Rattle.fuse_writer.proofs.naming.open_new.Goals as goal

pub returns-in_ok-entry-in-Ok-clause-does : goal.returns-in_ok-entry-in-Ok-clause-does
returns-in_ok-entry-in-Ok-clause-does g c =
    let mid = c.ask_number.new.self in
    let h = rw (c.in_ok-entry-in-Ok.was, c.open.ensures, c.ask_number.ensures.session) at (c.tell_of.ensures.does (λ entry. bodies.Created entry (open_file c.args.number))) in
    rw c.opened_file.ensures (opens_new_by _ mid.asking _ _ _ _ c.args.directory c.args.name.now c.args.number c.args.path.items _ c.ask_number.result _ c.ask_number.ensures.asked refl c.in-Ok.is (does_note _ _ _ _ _ _ _ _ h))

pub returns-in_err-entry-in-Ok-clause-does : goal.returns-in_err-entry-in-Ok-clause-does
returns-in_err-entry-in-Ok-clause-does g c =
    let mid = c.ask_number.new.self in
    let p = err_from_is_err_and c.from_residual.result c.from_residual.ensures.1 in
    let h = rw (c.in_err-entry-in-Ok.was, c.open.ensures, c.ask_number.ensures.session) at (c.tell_of.ensures.does (λ entry. bodies.Created entry (open_file c.args.number))) in
    rw (p.1, p.2) (opens_new_by _ mid.asking _ _ _ _ c.args.directory c.args.name.now c.args.number c.args.path.items _ c.ask_number.result _ c.ask_number.ensures.asked refl c.in-Ok.is (does_note _ _ _ _ _ _ _ _ h))

pub returns-in-Err-clause-does : goal.returns-in-Err-clause-does
returns-in-Err-clause-does g c =
    let mid = c.ask_number.new.self in
    opens_new_by _ mid.asking _ _ _ _ c.args.directory c.args.name.now c.args.number c.args.path.items _ c.ask_number.result _ c.ask_number.ensures.asked refl c.in-Err.is
    (rw c.ask_number.ensures.session at c.take_away.ensures.does)
