use Rattle.std.proofs.Common.{◌∙◌, refl, ap}
use Rattle.std.proofs.lemmas.Result.{err_from_is_err_and}
use Rattle.fuse_wire.specs.declared.bodies.Body.TheVariants as bodies
use Rattle.fuse_writer.proofs.DoingLemmas.{does_same, does_say, exit_early}
use Rattle.fuse_writer.specs.Saying.{found_body}
use Rattle.fuse_writer.specs.Requests.{found_there}
use Rattle.fuse_writer.proofs.naming.look_up.Goals as goal

pub returns-in_err-directory-clause-does : goal.returns-in_err-directory-clause-does
returns-in_err-directory-clause-does g c =
    exit_early _ _ _ _ (found_body) _ _ (err_from_is_err_and c.from_residual.result c.from_residual.ensures.1) refl _ refl (c.in_err-directory.ensures _)

pub returns-in_err-number-clause-does : goal.returns-in_err-number-clause-does
returns-in_err-number-clause-does g c =
    exit_early _ _ _ _ (found_body) _ _ (err_from_is_err_and c.from_residual-in_err-number.result c.from_residual-in_err-number.ensures.1) refl _ refl (c.in_ok-directory.ensures _ ∙ c.in_err-number.ensures _)

pub returns-in-None-clause-does : goal.returns-in-None-clause-does
returns-in-None-clause-does g c =
    does_same _ _ _ _ _ _ _ (c.in_ok-directory.ensures _ ∙ c.in_ok-number.ensures _ ∙ ap (found_there c.args.mounted.now.session c.in_ok-directory.directory c.args.name.now) c.in-None.is) (does_say _ _ _ _ _ _ refl refl refl)

pub returns-in_ok-tell_of-in-Some-clause-does : goal.returns-in_ok-tell_of-in-Some-clause-does
returns-in_ok-tell_of-in-Some-clause-does g c =
    let h = c.tell_of.ensures.does bodies.Entry in
    does_same _ _ _ _ _ _ _ (c.in_ok-directory.ensures _ ∙ c.in_ok-number.ensures _ ∙ ap (found_there c.args.mounted.now.session c.in_ok-directory.directory c.args.name.now) c.in-Some.is)
    (rw c.in_ok-tell_of-in-Some.was at h)

pub returns-in_err-tell_of-in-Some-clause-does : goal.returns-in_err-tell_of-in-Some-clause-does
returns-in_err-tell_of-in-Some-clause-does g c =
    let p = err_from_is_err_and c.from_residual-in_err-tell_of-in-Some.result c.from_residual-in_err-tell_of-in-Some.ensures.1 in
    let h = c.tell_of.ensures.does bodies.Entry in
    rw (p.1, p.2) (does_same _ _ _ _ _ _ _ (c.in_ok-directory.ensures _ ∙ c.in_ok-number.ensures _ ∙ ap (found_there c.args.mounted.now.session c.in_ok-directory.directory c.args.name.now) c.in-Some.is)
    (rw c.in_err-tell_of-in-Some.was at h))
