use Rattle.std.proofs.Common.{ap, ◌∙◌, refl}
use Rattle.std.proofs.lemmas.Result.{err_from_is_err_and}
use Rattle.fuse_wire.specs.declared.bodies.Body.TheVariants as bodies
use Rattle.fuse_nodes.specs.Known.{named}
use Rattle.fuse_nodes.specs.Table.{Lost}
use Rattle.fuse_writer.specs.Ahead.{marks, touches}
use Rattle.fuse_writer.specs.Turns.{Turn}
use Rattle.fuse_writer.proofs.DoingLemmas.{after_done, does_note, does_say, exit_done, exit_early, exit_path, goes_same, goes_then, noted_both}
use Rattle.fuse_writer.proofs.naming.remove_directory.Goals as goal

pub returns-in_err-directory-clause-does : goal.returns-in_err-directory-clause-does
returns-in_err-directory-clause-does g c =
    exit_early _ _ _ _ (λ _. bodies.Empty) _ _ (err_from_is_err_and c.from_residual.result c.from_residual.ensures.1) refl _ refl (c.in_err-directory.ensures _)

pub returns-in_err-number-clause-does : goal.returns-in_err-number-clause-does
returns-in_err-number-clause-does g c =
    exit_early _ _ _ _ (λ _. bodies.Empty) _ _ (err_from_is_err_and c.from_residual-in_err-number.result c.from_residual-in_err-number.ensures.1) refl _ refl (c.in_ok-directory.ensures _ ∙ c.in_err-number.ensures _)

pub returns-in_err-path-clause-does : goal.returns-in_err-path-clause-does
returns-in_err-path-clause-does g c =
    exit_path _ _ _ _ (λ _. bodies.Empty) _ _ (err_from_is_err_and c.from_residual-in_err-path.result c.from_residual-in_err-path.ensures.1) refl _ refl (goes_then (goes_same (c.in_ok-directory.ensures _ ∙ c.in_ok-number.ensures _)) (c.in_err-path.ensures _))

pub returns-in_err-ask_done-clause-does : goal.returns-in_err-ask_done-clause-does
returns-in_err-ask_done-clause-does g c =
    exit_done _ _ _ _ (λ _. bodies.Empty) _ _ (err_from_is_err_and c.from_residual-in_err-ask_done.result c.from_residual-in_err-ask_done.ensures.1) c.ask_done.ensures.session _ _ _ _ _ c.ask_done.ensures.asked refl c.in_err-ask_done.was (goes_then (goes_same (c.in_ok-directory.ensures _ ∙ c.in_ok-number.ensures _)) (c.in_ok-path.ensures _))

pub returns-clause-does : goal.returns-clause-does
returns-clause-does g c =
    let kept = c.args.mounted.now.asking.volume.kept in
    let s = c.args.mounted.now.session in
    let mid = c.ask_done.new.self in
    after_done _ mid.asking _ _ _ _ _ _ _ _ _ _ c.ask_done.ensures.asked refl c.in_ok-ask_done.was (goes_then (goes_same (c.in_ok-directory.ensures _ ∙ c.in_ok-number.ensures _)) (c.in_ok-path.ensures _))
    (does_note _ _ _ _ _ _ _ _ (does_say _ _ _ _ _ _ (ap (λ (t : Turn _). t.calls) (c.note-2.ensures.asking ∙ c.note.ensures.asking)) refl (rw (c.note-2.ensures.session, c.marked-marked.ensures, c.note.ensures.session, c.touched-touched.ensures, c.remove_name.ensures, c.ask_done.ensures.session)
    (noted_both (Lost c.in_ok-number.number (named c.in_ok-directory.directory c.args.name.now)) (touches kept s c.in_ok-directory.directory) (marks kept s c.in_ok-number.number) s))))
