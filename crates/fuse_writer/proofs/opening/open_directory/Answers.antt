use Rattle.std.proofs.Common.{refl}
use Rattle.std.proofs.lemmas.Result.{err_from_is_err_and}
use Rattle.fuse_wire.specs.declared.bodies.Body.TheVariants as bodies
use Rattle.fuse_writer.proofs.DoingLemmas.{does_same, does_say, exit_early}
use Rattle.fuse_writer.proofs.opening.open_directory.Goals as goal

pub returns-in_err-directory : goal.returns-in_err-directory
returns-in_err-directory g c =
    exit_early _ _ _ _ (bodies.Opened) _ _ (err_from_is_err_and c.from_residual.result c.from_residual.ensures.1) refl _ refl (c.in_err-directory.ensures _)

pub returns : goal.returns
returns g c =
    does_same _ _ _ _ _ _ _ (c.in_ok-directory.ensures _) (does_say _ _ _ _ _ _ refl refl refl)
