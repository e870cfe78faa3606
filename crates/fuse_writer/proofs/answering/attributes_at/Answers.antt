use Rattle.std.proofs.Common.{refl, ap}
use Rattle.std.proofs.lemmas.Result.{err_from_is_err_and}
use Rattle.fuse_wire.specs.declared.bodies.Body.TheVariants as bodies
use Rattle.fuse_writer.proofs.DoingLemmas.{does_same, does_say, exit_early}
use Rattle.fuse_writer.specs.Requests.{kept_for}
use Rattle.fuse_reader.specs.Said.{told}
use Rattle.fuse_writer.proofs.answering.attributes_at.Goals as goal

pub returns-in_err-number : goal.returns-in_err-number
returns-in_err-number g c =
    exit_early _ _ _ _ (bodies.Attributes (kept_for c.args.mounted.now.session)) _ _ (err_from_is_err_and c.from_residual.result c.from_residual.ensures.1) refl _ refl (c.in_err-number.ensures _)

pub returns : goal.returns
returns g c =
    does_same _ _ _ _ _ _ _ (c.in_ok-number.ensures _) (does_say _ _ _ _ _ _ refl (ap (λ a. told (bodies.Attributes (kept_for c.args.mounted.now.session) a)) c.shown_of.ensures) refl)
