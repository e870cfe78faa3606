use Rattle.std.proofs.Common.{◌∙◌, refl, sym, ap}
use Rattle.std.proofs.lemmas.Result.{err_from_is_err_and}
use Rattle.fuse_wire.specs.declared.bodies.Body.TheVariants as bodies
use Rattle.fuse_writer.proofs.DoingLemmas.{does_same, does_say, exit_early}
use Rattle.fuse_writer.proofs.RequestLemmas.{links_directory, links_file}
use Rattle.frozen.specs.Kept.{Kept}
use Rattle.fuse_writer.specs.Requests.{is_directory}
use Rattle.fuse_writer.proofs.naming.link.Goals as goal

pub returns-in_err-directory-clause-does : goal.returns-in_err-directory-clause-does
returns-in_err-directory-clause-does g c =
    exit_early _ _ _ _ (bodies.Entry) _ _ (err_from_is_err_and c.from_residual.result c.from_residual.ensures.1) refl _ refl (c.in_err-directory.ensures _)

pub returns-in_err-number-clause-does : goal.returns-in_err-number-clause-does
returns-in_err-number-clause-does g c =
    exit_early _ _ _ _ (bodies.Entry) _ _ (err_from_is_err_and c.from_residual-in_err-number.result c.from_residual-in_err-number.ensures.1) refl _ refl (c.in_ok-directory.ensures _ ∙ c.in_err-number.ensures _)

pub returns-then-is_directory_at-clause-does : goal.returns-then-is_directory_at-clause-does
returns-then-is_directory_at-clause-does g c =
    does_same _ _ _ _ _ _ _ (links_directory c.args.mounted.now.asking.volume.kept c.args.mounted.now.session c.args.parent c.args.file c.args.name.now _ _ c.in_ok-directory.ensures c.in_ok-number.ensures (ap (λ (k : Kept). is_directory k c.in_ok-number.number) (sym c.metadata.ensures) ∙ sym c.is_directory_at.ensures ∙ c.if-is_directory_at.true)) (does_say _ _ _ _ _ _ refl refl refl)

pub returns-clause-does : goal.returns-clause-does
returns-clause-does g c =
    does_same _ _ _ _ _ _ _ (links_file c.args.mounted.now.asking.volume.kept c.args.mounted.now.session c.args.parent c.args.file c.args.name.now _ _ c.in_ok-directory.ensures c.in_ok-number.ensures (ap (λ (k : Kept). is_directory k c.in_ok-number.number) (sym c.metadata.ensures) ∙ sym c.is_directory_at.ensures ∙ c.if-is_directory_at.false)) c.link_at.ensures.does
