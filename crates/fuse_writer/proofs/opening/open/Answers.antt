use Rattle.std.proofs.Common.{◌∙◌, refl, sym, ap}
use Rattle.std.proofs.lemmas.Result.{err_from_is_err_and}
use Rattle.fuse_wire.specs.declared.bodies.Body.TheVariants as bodies
use Rattle.fuse_writer.proofs.DoingLemmas.{after_number, does_note, does_same, does_say, exit_early, exit_number, exit_path, goes_same, goes_then}
use Rattle.fuse_writer.proofs.RequestLemmas.{opens_file, opens_no_directory, with_nodes}
use Rattle.frozen.specs.Kept.{Kept}
use Rattle.fuse_writer.specs.Requests.{is_directory}
use Rattle.fuse_reader.specs.Said.{told}
use Rattle.fuse_writer.proofs.opening.open.Goals as goal

pub returns-in_err-number-clause-does : goal.returns-in_err-number-clause-does
returns-in_err-number-clause-does g c =
    exit_early _ _ _ _ (bodies.Opened) _ _ (err_from_is_err_and c.from_residual.result c.from_residual.ensures.1) refl _ refl (c.in_err-number.ensures _)

pub returns-then-is_directory_at-clause-does : goal.returns-then-is_directory_at-clause-does
returns-then-is_directory_at-clause-does g c =
    does_same _ _ _ _ _ _ _ (opens_no_directory c.args.mounted.now.asking.volume.kept c.args.mounted.now.session c.args.node c.in_ok-number.number c.in_ok-number.ensures (ap (λ (k : Kept). is_directory k c.in_ok-number.number) (sym c.metadata.ensures) ∙ sym c.is_directory_at.ensures ∙ c.if-is_directory_at.true)) (does_say _ _ _ _ _ _ refl refl refl)

pub returns-in-Some-clause-does : goal.returns-in-Some-clause-does
returns-in-Some-clause-does g c =
    does_same _ _ _ _ _ _ _ (opens_file c.args.mounted.now.asking.volume.kept c.args.mounted.now.session c.args.node c.in_ok-number.number c.in_ok-number.ensures (ap (λ (k : Kept). is_directory k c.in_ok-number.number) (sym c.metadata.ensures) ∙ sym c.is_directory_at.ensures ∙ c.if-is_directory_at.false) _ c.in-Some.ensures) (does_note _ _ _ _ _ _ _ _ (does_say _ _ _ _ _ _ refl (ap (λ o. told (bodies.Opened o)) c.opened_file.ensures) (ap (with_nodes c.args.mounted.now.session) c.open.ensures)))

pub returns-in_err-path-clause-does : goal.returns-in_err-path-clause-does
returns-in_err-path-clause-does g c =
    exit_path _ _ _ _ (bodies.Opened) _ _ (err_from_is_err_and c.from_residual-in_err-path.result c.from_residual-in_err-path.ensures.1) refl _ refl (goes_then (goes_same (opens_file c.args.mounted.now.asking.volume.kept c.args.mounted.now.session c.args.node c.in_ok-number.number c.in_ok-number.ensures (ap (λ (k : Kept). is_directory k c.in_ok-number.number) (sym c.metadata.ensures) ∙ sym c.is_directory_at.ensures ∙ c.if-is_directory_at.false) _ c.in_default.ensures)) (c.in_err-path.ensures _))

pub returns-in_err-handle-clause-does : goal.returns-in_err-handle-clause-does
returns-in_err-handle-clause-does g c =
    exit_number _ _ _ _ (bodies.Opened) _ _ (err_from_is_err_and c.from_residual-in_err-handle.result c.from_residual-in_err-handle.ensures.1) c.ask_number.ensures.session _ _ _ _ _ c.ask_number.ensures.asked refl c.in_err-handle.was (goes_then (goes_same (opens_file c.args.mounted.now.asking.volume.kept c.args.mounted.now.session c.args.node c.in_ok-number.number c.in_ok-number.ensures (ap (λ (k : Kept). is_directory k c.in_ok-number.number) (sym c.metadata.ensures) ∙ sym c.is_directory_at.ensures ∙ c.if-is_directory_at.false) _ c.in_default.ensures)) (c.in_ok-path.ensures _))

pub returns-clause-does : goal.returns-clause-does
returns-clause-does g c =
    let mid = c.ask_number.new.self in
    after_number _ mid.asking _ _ _ _ _ _ _ _ _ _ c.ask_number.ensures.asked refl c.in_ok-handle.was (goes_then (goes_same (opens_file c.args.mounted.now.asking.volume.kept c.args.mounted.now.session c.args.node c.in_ok-number.number c.in_ok-number.ensures (ap (λ (k : Kept). is_directory k c.in_ok-number.number) (sym c.metadata.ensures) ∙ sym c.is_directory_at.ensures ∙ c.if-is_directory_at.false) _ c.in_default.ensures)) (c.in_ok-path.ensures _))
    (does_note _ _ _ _ _ _ _ _ (does_say _ _ _ _ _ _ refl (ap (λ o. told (bodies.Opened o)) c.opened_file-2.ensures) (rw (c.open-2.ensures, c.ask_number.ensures.session) refl)))
