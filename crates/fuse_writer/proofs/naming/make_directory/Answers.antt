use Rattle.std.proofs.Common.{ap, refl}
use Rattle.std.proofs.lemmas.Result.{err_from_is_err_and}
use Rattle.fuse_wire.specs.declared.bodies.Body.TheVariants as bodies
use Rattle.machine.specs.Command.{Mkdir}
use Rattle.fuse_writer.proofs.DoingLemmas.{after_number, does_note, exit_early, exit_number, exit_path, goes_same, goes_then}
use Rattle.fuse_writer.proofs.naming.make_directory.Goals as goal

pub returns-in_err-directory-clause-does : goal.returns-in_err-directory-clause-does
returns-in_err-directory-clause-does g c =
    exit_early _ _ _ _ (bodies.Entry) _ _ (err_from_is_err_and c.from_residual.result c.from_residual.ensures.1) refl _ refl (c.in_err-directory.ensures _)

pub returns-in_err-path-clause-does : goal.returns-in_err-path-clause-does
returns-in_err-path-clause-does g c =
    exit_path _ _ _ _ (bodies.Entry) _ _ (err_from_is_err_and c.from_residual-in_err-path.result c.from_residual-in_err-path.ensures.1) refl _ refl (goes_then (goes_same (c.in_ok-directory.ensures _)) (c.in_err-path.ensures _))

pub returns-in_err-number-clause-does : goal.returns-in_err-number-clause-does
returns-in_err-number-clause-does g c =
    exit_number _ _ _ _ (bodies.Entry) _ _ (err_from_is_err_and c.from_residual-in_err-number.result c.from_residual-in_err-number.ensures.1) c.ask_number.ensures.session _ _ _ _ _ c.ask_number.ensures.asked (ap (Mkdir c.in_ok-path.path.items) c.words_for-attributes.ensures) c.in_err-number.was (goes_then (goes_same (c.in_ok-directory.ensures _)) (c.in_ok-path.ensures _))

pub returns-clause-does : goal.returns-clause-does
returns-clause-does g c =
    let mid = c.ask_number.new.self in
    let h = rw (c.bear.ensures.session, c.touched-touched.ensures, c.ask_number.ensures.session, c.bear.ensures.asking) at (c.tell_of.ensures.does bodies.Entry) in
    after_number _ mid.asking _ _ _ _ _ _ _ _ _ _ c.ask_number.ensures.asked (ap (Mkdir c.in_ok-path.path.items) c.words_for-attributes.ensures) c.in_ok-number.was (goes_then (goes_same (c.in_ok-directory.ensures _)) (c.in_ok-path.ensures _))
    (does_note _ _ _ _ _ _ _ _ h)
