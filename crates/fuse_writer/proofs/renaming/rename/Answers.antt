use Rattle.std.proofs.Common.{◌∙◌, refl}
use Rattle.std.proofs.lemmas.Result.{err_from_is_err_and}
use Rattle.fuse_wire.specs.declared.bodies.Body.TheVariants as bodies
use Rattle.fuse_writer.proofs.DoingLemmas.{does_same, does_say, exit_early}
use Rattle.fuse_writer.proofs.RequestLemmas.{renames_known, renames_unknown}
use Rattle.fuse_writer.proofs.renaming.rename.Goals as goal

pub returns-then-asked-ne0-clause-does : goal.returns-then-asked-ne0-clause-does
returns-then-asked-ne0-clause-does g c =
    does_same _ _ _ _ _ _ _ (renames_unknown c.args.mounted.now.asking.volume.kept c.args.mounted.now.session c.args.parent c.args.old.now c.args.target c.args.new.now c.args.asked c.if-asked-ne0.true) (does_say _ _ _ _ _ _ refl refl refl)

pub returns-in_err-directory-clause-does : goal.returns-in_err-directory-clause-does
returns-in_err-directory-clause-does g c =
    exit_early _ _ _ _ (λ _. bodies.Empty) _ _ (err_from_is_err_and c.from_residual.result c.from_residual.ensures.1) refl _ refl (renames_known c.args.mounted.now.asking.volume.kept c.args.mounted.now.session c.args.parent c.args.old.now c.args.target c.args.new.now c.args.asked c.if-asked-ne0.false ∙ c.in_err-directory.ensures _)

pub returns-in_err-directory-2-clause-does : goal.returns-in_err-directory-2-clause-does
returns-in_err-directory-2-clause-does g c =
    exit_early _ _ _ _ (λ _. bodies.Empty) _ _ (err_from_is_err_and c.from_residual-in_err-directory-2.result c.from_residual-in_err-directory-2.ensures.1) refl _ refl (renames_known c.args.mounted.now.asking.volume.kept c.args.mounted.now.session c.args.parent c.args.old.now c.args.target c.args.new.now c.args.asked c.if-asked-ne0.false ∙ c.in_ok-directory.ensures _ ∙ c.in_err-directory-2.ensures _)

pub returns-clause-does : goal.returns-clause-does
returns-clause-does g c =
    does_same _ _ _ _ _ _ _ (renames_known c.args.mounted.now.asking.volume.kept c.args.mounted.now.session c.args.parent c.args.old.now c.args.target c.args.new.now c.args.asked c.if-asked-ne0.false ∙ c.in_ok-directory.ensures _ ∙ c.in_ok-directory-2.ensures _) c.rename_at.ensures.does
