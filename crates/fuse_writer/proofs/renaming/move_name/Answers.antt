use Rattle.std.proofs.Common.{◌≡◌, [], ◌∷◌, ap, ◌∙◌, refl, sym}
use Rattle.std.proofs.lemmas.Result.{err_from_is_err_and}
use Rattle.fuse_wire.specs.declared.bodies.Body.TheVariants as bodies
use Rattle.fuse_writer.proofs.DoingLemmas.{after_done, does_memory, does_no_memory, does_note, does_same, does_say, exit_done, exit_path, goes_same, goes_then, noted_three}
use Rattle.fuse_writer.proofs.RequestLemmas.{moves_across, moves_on, with_nodes}
use Rattle.fuse_nodes.specs.Known.{named}
use Rattle.fuse_nodes.specs.Table.{Got, Lost}
use Rattle.fuse_writer.specs.Ahead.{notes}
use Rattle.fuse_writer.specs.Doings.{noted}
use Rattle.fuse_writer.specs.Turns.{Turn}
use Rattle.fuse_writer.specs.Moves.{changes_of}
use Rattle.fuse_writer.proofs.renaming.move_name.Goals as goal

pub returns-then-crosses-clause-does : goal.returns-then-crosses-clause-does
returns-then-crosses-clause-does g c =
    does_same _ _ _ _ _ _ _ (moves_across c.args.mounted.now.session (changes_of c.args.mounted.now.session c.args.moved) c.args.moved.is_directory c.args.moved.number c.args.moved.from.directory c.args.moved.from.name.now c.args.moved.to.directory c.args.moved.to.name.now
    (sym c.crosses.ensures ∙ c.if-crosses.true)) (does_say _ _ _ _ _ _ refl refl refl)

pub returns-in_err-old-clause-does : goal.returns-in_err-old-clause-does
returns-in_err-old-clause-does g c =
    let on = moves_on c.args.mounted.now.session (changes_of c.args.mounted.now.session c.args.moved) c.args.moved.is_directory c.args.moved.number c.args.moved.from.directory c.args.moved.from.name.now c.args.moved.to.directory c.args.moved.to.name.now (sym c.crosses.ensures ∙ c.if-crosses.false) in
    exit_path _ _ _ _ (λ _. bodies.Empty) _ _ (err_from_is_err_and c.from_residual.result c.from_residual.ensures.1) refl _ refl (goes_then (goes_same on) (c.in_err-old.ensures _))

pub returns-in_err-new-clause-does : goal.returns-in_err-new-clause-does
returns-in_err-new-clause-does g c =
    let on = moves_on c.args.mounted.now.session (changes_of c.args.mounted.now.session c.args.moved) c.args.moved.is_directory c.args.moved.number c.args.moved.from.directory c.args.moved.from.name.now c.args.moved.to.directory c.args.moved.to.name.now (sym c.crosses.ensures ∙ c.if-crosses.false) in
    exit_path _ _ _ _ (λ _. bodies.Empty) _ _ (err_from_is_err_and c.from_residual-in_err-new.result c.from_residual-in_err-new.ensures.1) refl _ refl (goes_then (goes_same on) (goes_then (c.in_ok-old.ensures _) (c.in_err-new.ensures _)))

pub returns-in_err-ask_done-clause-does : goal.returns-in_err-ask_done-clause-does
returns-in_err-ask_done-clause-does g c =
    let on = moves_on c.args.mounted.now.session (changes_of c.args.mounted.now.session c.args.moved) c.args.moved.is_directory c.args.moved.number c.args.moved.from.directory c.args.moved.from.name.now c.args.moved.to.directory c.args.moved.to.name.now (sym c.crosses.ensures ∙ c.if-crosses.false) in
    exit_done _ _ _ _ (λ _. bodies.Empty) _ _ (err_from_is_err_and c.from_residual-in_err-ask_done.result c.from_residual-in_err-ask_done.ensures.1) c.ask_done.ensures.session _ _ _ _ _ c.ask_done.ensures.asked refl c.in_err-ask_done.was (goes_then (goes_same on) (goes_then (c.in_ok-old.ensures _) (c.in_ok-new.ensures _)))

pub returns-in-Ok-clause-does : goal.returns-in-Ok-clause-does
returns-in-Ok-clause-does g c =
    let s = c.args.mounted.now.session in
    let m = c.args.moved in
    let on = moves_on s (changes_of s m) m.is_directory m.number m.from.directory m.from.name.now m.to.directory m.to.name.now (sym c.crosses.ensures ∙ c.if-crosses.false) in
    let mid = c.ask_done.new.self in
    let noting = c.note-3.new.self in
    let asked = ap (λ (t : Turn _). t.calls) (c.note-3.ensures.asking ∙ c.note-2.ensures.asking ∙ c.note.ensures.asking) in
    let same : noting.session ≡ noted (Lost m.number (named m.from.directory m.from.name.now) ∷ []) (changes_of s m) s =
    rw (c.note-3.ensures.session, c.note-2.ensures.session, c.note.ensures.session, c.remove_name.ensures, c.ask_done.ensures.session)
    (noted_three (Lost m.number (named m.from.directory m.from.name.now)) (notes s m.from.directory m.after.left) (notes s m.to.directory m.after.reached) (notes s m.number m.after.own) s) in
    after_done _ mid.asking _ _ _ _ _ _ _ _ _ _ c.ask_done.ensures.asked refl c.in_ok-ask_done.was (goes_then (goes_same on) (goes_then (c.in_ok-old.ensures _) (c.in_ok-new.ensures _)))
    (does_note _ _ _ _ _ _ _ _ (does_memory _ _ _ _ _ _ _ (does_note _ _ _ _ _ _ _ _
    (does_say _ _ _ _ _ _ asked refl (ap (with_nodes noting.session) c.in-Ok.ensures.added ∙ ap (noted (Got m.number (named m.to.directory m.to.name.now) ∷ []) []) same)))))

pub returns-in-Err-clause-does : goal.returns-in-Err-clause-does
returns-in-Err-clause-does g c =
    let s = c.args.mounted.now.session in
    let m = c.args.moved in
    let on = moves_on s (changes_of s m) m.is_directory m.number m.from.directory m.from.name.now m.to.directory m.to.name.now (sym c.crosses.ensures ∙ c.if-crosses.false) in
    let mid = c.ask_done.new.self in
    let noting = c.note-3.new.self in
    let asked = ap (λ (t : Turn _). t.calls) (c.note-3.ensures.asking ∙ c.note-2.ensures.asking ∙ c.note.ensures.asking) in
    let same : noting.session ≡ noted (Lost m.number (named m.from.directory m.from.name.now) ∷ []) (changes_of s m) s =
    rw (c.note-3.ensures.session, c.note-2.ensures.session, c.note.ensures.session, c.remove_name.ensures, c.ask_done.ensures.session)
    (noted_three (Lost m.number (named m.from.directory m.from.name.now)) (notes s m.from.directory m.after.left) (notes s m.to.directory m.after.reached) (notes s m.number m.after.own) s) in
    after_done _ mid.asking _ _ _ _ _ _ _ _ _ _ c.ask_done.ensures.asked refl c.in_ok-ask_done.was (goes_then (goes_same on) (goes_then (c.in_ok-old.ensures _) (c.in_ok-new.ensures _)))
    (does_note _ _ _ _ _ _ _ _ (does_no_memory _ _ _ _ _ _ asked refl (ap (with_nodes noting.session) c.in-Err.ensures.refused ∙ same)))
