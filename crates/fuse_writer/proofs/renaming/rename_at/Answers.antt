use Rattle.std.proofs.Common.{◌∙◌, refl, ap}
use Rattle.std.proofs.lemmas.Result.{err_from_is_err_and}
use Rattle.fuse_wire.specs.declared.bodies.Body.TheVariants as bodies
use Rattle.fuse_writer.proofs.DoingLemmas.{does_same, exit_early}
use Rattle.fuse_writer.proofs.RequestLemmas.{renames_by, renames_none_there, renames_nowhere}
use Rattle.frozen.specs.Kept.{Kept}
use Rattle.fuse_writer.specs.Requests.{is_directory}
use Rattle.fuse_writer.proofs.renaming.rename_at.Goals as goal

pub returns-in_err-number-clause-does : goal.returns-in_err-number-clause-does
returns-in_err-number-clause-does g c =
    exit_early _ _ _ _ (λ _. bodies.Empty) _ _ (err_from_is_err_and c.from_residual.result c.from_residual.ensures.1) refl _ refl (renames_none_there c.args.mounted.now.asking.volume.kept c.args.mounted.now.session c.args.spares c.args.from.directory c.args.from.name.now c.args.to.directory c.args.to.name.now _ c.in_err-number.ensures)

pub returns-in_err-other-clause-does : goal.returns-in_err-other-clause-does
returns-in_err-other-clause-does g c =
    exit_early _ _ _ _ (λ _. bodies.Empty) _ _ (err_from_is_err_and c.from_residual-in_err-other.result c.from_residual-in_err-other.ensures.1) refl _ refl (renames_nowhere c.args.mounted.now.asking.volume.kept c.args.mounted.now.session c.args.spares _ c.args.from.directory c.args.from.name.now c.args.to.directory c.args.to.name.now _ c.in_ok-number.ensures c.in_err-other.ensures)

pub returns-clause-does : goal.returns-clause-does
returns-clause-does g c =
    let is = c.is_directory_at-is_directory.ensures ∙ ap (λ (k : Kept). is_directory k c.in_ok-number.number) c.metadata.ensures in
    does_same _ _ _ _ _ _ _ (renames_by c.args.mounted.now.asking.volume.kept c.args.mounted.now.session c.args.spares c.in_ok-number.number c.args.from.directory c.args.from.name.now c.args.to.directory c.args.to.name.now _ c.in_ok-number.ensures c.in_ok-other.ensures) (rw is at c.rename_to.ensures.does)

pub rename_to-requires : goal.rename_to-requires
rename_to-requires g c = record { left = c.touched.ensures; reached = c.touched-2.ensures; own = c.marked.ensures }
