use Rattle.std.proofs.Common.{◌∙◌, refl, ap}
use Rattle.std.proofs.lemmas.Result.{err_from_is_err_and}
use Rattle.fuse_wire.specs.declared.bodies.Body.TheVariants as bodies
use Rattle.fuse_writer.proofs.DoingLemmas.{after_done, does_note, exit_done, exit_early, exit_path, goes_same, goes_then}
use Rattle.fuse_writer.proofs.RequestLemmas.{replaces_fits, replaces_refused}
use Rattle.frozen.specs.Kept.{Kept}
use Rattle.fuse_writer.specs.Requests.{is_directory}
use Rattle.fuse_writer.specs.Moves.{changes_of}
use Rattle.fuse_writer.proofs.renaming.replace.Goals as goal

pub returns-in_err-check_fits-clause-does : goal.returns-in_err-check_fits-clause-does
returns-in_err-check_fits-clause-does g c =
    let on = replaces_refused c.args.mounted.now.session (changes_of c.args.mounted.now.session c.args.moved) c.args.moved.is_directory c.args.moved.number c.args.moved.from.directory c.args.moved.from.name.now c.args.moved.to.directory c.args.moved.to.name.now c.args.mounted.now.asking.volume.kept (is_directory c.args.mounted.now.asking.volume.kept c.args.other) c.args.other c.check_fits.result c.is_directory_at-is_other_directory.result
    (c.is_directory_at-is_other_directory.ensures ∙ ap (λ (k : Kept). is_directory k c.args.other) c.metadata.ensures) c.check_fits.ensures c.in_err-check_fits.field-0.0 c.in_err-check_fits.was in
    exit_early _ _ _ _ (λ _. bodies.Empty) _ _ (err_from_is_err_and c.from_residual.result c.from_residual.ensures.1) refl _ refl on

pub returns-in_err-path-clause-does : goal.returns-in_err-path-clause-does
returns-in_err-path-clause-does g c =
    let on = replaces_fits c.args.mounted.now.session (changes_of c.args.mounted.now.session c.args.moved) c.args.moved.is_directory c.args.moved.number c.args.moved.from.directory c.args.moved.from.name.now c.args.moved.to.directory c.args.moved.to.name.now c.args.mounted.now.asking.volume.kept (is_directory c.args.mounted.now.asking.volume.kept c.args.other) c.args.other c.check_fits.result c.is_directory_at-is_other_directory.result
    (c.is_directory_at-is_other_directory.ensures ∙ ap (λ (k : Kept). is_directory k c.args.other) c.metadata.ensures) c.check_fits.ensures c.in_ok-check_fits.field-0 c.in_ok-check_fits.was in
    exit_path _ _ _ _ (λ _. bodies.Empty) _ _ (err_from_is_err_and c.from_residual-in_err-path.result c.from_residual-in_err-path.ensures.1) refl _ refl (goes_then (goes_same on) (c.in_err-path.ensures _))

pub returns-in_err-ask_done-clause-does : goal.returns-in_err-ask_done-clause-does
returns-in_err-ask_done-clause-does g c =
    let on = replaces_fits c.args.mounted.now.session (changes_of c.args.mounted.now.session c.args.moved) c.args.moved.is_directory c.args.moved.number c.args.moved.from.directory c.args.moved.from.name.now c.args.moved.to.directory c.args.moved.to.name.now c.args.mounted.now.asking.volume.kept (is_directory c.args.mounted.now.asking.volume.kept c.args.other) c.args.other c.check_fits.result c.is_directory_at-is_other_directory.result
    (c.is_directory_at-is_other_directory.ensures ∙ ap (λ (k : Kept). is_directory k c.args.other) c.metadata.ensures) c.check_fits.ensures c.in_ok-check_fits.field-0 c.in_ok-check_fits.was in
    exit_done _ _ _ _ (λ _. bodies.Empty) _ _ (err_from_is_err_and c.from_residual-in_err-ask_done.result c.from_residual-in_err-ask_done.ensures.1) c.ask_done.ensures.session _ _ _ _ _ c.ask_done.ensures.asked (c.removal.ensures _) c.in_err-ask_done.was (goes_then (goes_same on) (c.in_ok-path.ensures _))

pub returns-clause-does : goal.returns-clause-does
returns-clause-does g c =
    let on = replaces_fits c.args.mounted.now.session (changes_of c.args.mounted.now.session c.args.moved) c.args.moved.is_directory c.args.moved.number c.args.moved.from.directory c.args.moved.from.name.now c.args.moved.to.directory c.args.moved.to.name.now c.args.mounted.now.asking.volume.kept (is_directory c.args.mounted.now.asking.volume.kept c.args.other) c.args.other c.check_fits.result c.is_directory_at-is_other_directory.result
    (c.is_directory_at-is_other_directory.ensures ∙ ap (λ (k : Kept). is_directory k c.args.other) c.metadata.ensures) c.check_fits.ensures c.in_ok-check_fits.field-0 c.in_ok-check_fits.was in
    let mid = c.ask_done.new.self in
    let h = rw (c.note.ensures.session, c.note.ensures.asking, c.marked-marked.ensures, c.remove_name.ensures, c.ask_done.ensures.session) at c.move_name.ensures.does in
    after_done _ mid.asking _ _ _ _ _ _ _ _ _ _ c.ask_done.ensures.asked (c.removal.ensures _) c.in_ok-ask_done.was (goes_then (goes_same on) (c.in_ok-path.ensures _))
    (does_note _ _ _ _ _ _ _ _ h)
