use Rattle.std.proofs.Common.{[], refl}
use Rattle.std.proofs.lemmas.Result.{err_from_is_err_and}
use Rattle.fuse_wire.specs.declared.bodies.Body.TheVariants as bodies
use Rattle.fuse_writer.specs.Ahead.{marks, touches}
use Rattle.fuse_writer.proofs.DoingLemmas.{after_done, does_note, exit_done, exit_path, goes_same, goes_then, noted_pair}
use Rattle.fuse_writer.proofs.RequestLemmas.{links_in}
use Rattle.fuse_writer.proofs.naming.link_at.Goals as goal

pub returns-in_err-own-clause-does : goal.returns-in_err-own-clause-does
returns-in_err-own-clause-does g c =
    exit_path _ _ _ _ (bodies.Entry) _ _ (err_from_is_err_and c.from_residual.result c.from_residual.ensures.1) refl _ refl (goes_then (goes_same (links_in _ _ _ _ _)) (c.in_err-own.ensures _))

pub returns-in_err-path-clause-does : goal.returns-in_err-path-clause-does
returns-in_err-path-clause-does g c =
    exit_path _ _ _ _ (bodies.Entry) _ _ (err_from_is_err_and c.from_residual-in_err-path.result c.from_residual-in_err-path.ensures.1) refl _ refl (goes_then (goes_same (links_in _ _ _ _ _)) (goes_then (c.in_ok-own.ensures _) (c.in_err-path.ensures _)))

pub returns-in_err-ask_done-clause-does : goal.returns-in_err-ask_done-clause-does
returns-in_err-ask_done-clause-does g c =
    exit_done _ _ _ _ (bodies.Entry) _ _ (err_from_is_err_and c.from_residual-in_err-ask_done.result c.from_residual-in_err-ask_done.ensures.1) c.ask_done.ensures.session _ _ _ _ _ c.ask_done.ensures.asked refl c.in_err-ask_done.was (goes_then (goes_same (links_in _ _ _ _ _)) (goes_then (c.in_ok-own.ensures _) (c.in_ok-path.ensures _)))

pub returns-clause-does : goal.returns-clause-does
returns-clause-does g c =
    let kept = c.args.mounted.now.asking.volume.kept in
    let s = c.args.mounted.now.session in
    let mid = c.ask_done.new.self in
    after_done _ mid.asking _ _ _ _ _ _ _ _ _ _ c.ask_done.ensures.asked refl c.in_ok-ask_done.was (goes_then (goes_same (links_in _ _ _ _ _)) (goes_then (c.in_ok-own.ensures _) (c.in_ok-path.ensures _)))
    (does_note _ _ _ _ _ [] _ _ (rw (
      c.note-2.ensures.session,
      c.marked-marked.ensures,
      c.note.ensures.session,
      c.touched-touched.ensures,
      c.ask_done.ensures.session,
      noted_pair (touches kept s c.args.directory) (marks kept s c.args.number) s,
      c.note-2.ensures.asking,
      c.note.ensures.asking,
    ) at (c.tell_of.ensures.does bodies.Entry)))
