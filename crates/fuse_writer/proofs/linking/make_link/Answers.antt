use Rattle.std.proofs.Common.{◌≡◌, Result, refl, rules, ap, ◌∙◌}
use Rattle.std.proofs.lemmas.Result.{err_from_is_err_and}
use Rattle.fuse_wire.specs.declared.bodies.Body.TheVariants as bodies
use Rattle.fuse_wire.specs.declared.errors.Errno.{Errno}
use Rattle.machine.specs.Command.{Create}
use Rattle.fuse_writer.specs.Doings.{go_on}
use Rattle.fuse_writer.proofs.DoingLemmas.{after_number, does_no_memory, does_note, does_on, does_same, does_say, exit_early, exit_number, exit_path, goes_memory, goes_same, goes_then}
use Rattle.fuse_writer.proofs.LinkLemmas.{link_kept, link_strict, linking}
use Rattle.fuse_writer.proofs.linking.make_link.Goals as goal

pub returns-then-not-mounted-clause-does : goal.returns-then-not-mounted-clause-does
returns-then-not-mounted-clause-does g c =
    does_same _ _ _ _ _ _ _ (link_strict c.args.mounted.now.asking.volume.kept c.args.mounted.now.session c.args.parent c.args.name.now c.args.target.now c.args.new c.if-not-mounted.true)
    (does_say _ _ _ _ _ _ refl refl refl)

pub returns-in_err-check_target-clause-does : goal.returns-in_err-check_target-clause-does
returns-in_err-check_target-clause-does g c =
    let kept = c.args.mounted.now.asking.volume.kept in
    let s = c.args.mounted.now.session in
    let whole = linking kept s c.args.parent c.args.name.now c.args.target.now c.args.new in
    exit_early _ _ _ _ (bodies.Entry) _ _ (err_from_is_err_and c.from_residual.result c.from_residual.ensures.1) refl _ refl
    (link_kept kept s c.args.parent c.args.name.now c.args.target.now c.args.new c.if-not-mounted.false ∙ c.check_target.ensures.target whole ∙ ap (λ (o : Result _ Errno). go_on o whole) c.in_err-check_target.was)

pub returns-in_err-directory-clause-does : goal.returns-in_err-directory-clause-does
returns-in_err-directory-clause-does g c =
    let kept = c.args.mounted.now.asking.volume.kept in
    let s = c.args.mounted.now.session in
    let whole = linking kept s c.args.parent c.args.name.now c.args.target.now c.args.new in
    exit_early _ _ _ _ (bodies.Entry) _ _ (err_from_is_err_and c.from_residual-in_err-directory.result c.from_residual-in_err-directory.ensures.1) refl _ refl
    (link_kept kept s c.args.parent c.args.name.now c.args.target.now c.args.new c.if-not-mounted.false ∙ c.check_target.ensures.target whole ∙ ap (λ (o : Result _ Errno). go_on o whole) c.in_ok-check_target.was ∙ c.in_err-directory.ensures _)

pub returns-in_err-path-clause-does : goal.returns-in_err-path-clause-does
returns-in_err-path-clause-does g c =
    let kept = c.args.mounted.now.asking.volume.kept in
    let s = c.args.mounted.now.session in
    let whole = linking kept s c.args.parent c.args.name.now c.args.target.now c.args.new in
    exit_path _ _ _ _ (bodies.Entry) _ _ (err_from_is_err_and c.from_residual-in_err-path.result c.from_residual-in_err-path.ensures.1) refl _ refl
    (goes_then (goes_same (link_kept kept s c.args.parent c.args.name.now c.args.target.now c.args.new c.if-not-mounted.false ∙ c.check_target.ensures.target whole ∙ ap (λ (o : Result _ Errno). go_on o whole) c.in_ok-check_target.was ∙ c.in_ok-directory.ensures _)) (c.in_err-path.ensures _))

pub returns-in_default-clause-does : goal.returns-in_default-clause-does
returns-in_default-clause-does g c =
    let kept = c.args.mounted.now.asking.volume.kept in
    let s = c.args.mounted.now.session in
    let whole = linking kept s c.args.parent c.args.name.now c.args.target.now c.args.new in
    does_on _ _ _ _ _ _ _ (goes_then (goes_same (link_kept kept s c.args.parent c.args.name.now c.args.target.now c.args.new c.if-not-mounted.false ∙ c.check_target.ensures.target whole ∙ ap (λ (o : Result _ Errno). go_on o whole) c.in_ok-check_target.was ∙ c.in_ok-directory.ensures _)) (c.in_ok-path.ensures _))
    (does_no_memory _ _ _ _ _ _ refl refl refl)

pub returns-in_err-number-clause-does : goal.returns-in_err-number-clause-does
returns-in_err-number-clause-does g c =
    let kept = c.args.mounted.now.asking.volume.kept in
    let s = c.args.mounted.now.session in
    let whole = linking kept s c.args.parent c.args.name.now c.args.target.now c.args.new in
    exit_number _ _ _ _ (bodies.Entry) _ _ (err_from_is_err_and c.from_residual-in_err-number.result c.from_residual-in_err-number.ensures.1) c.ask_number.ensures.session _ _ _ _ _
    c.ask_number.ensures.asked (ap (Create c.in_ok-path.path.items) c.words_for-attributes.ensures) c.in_err-number.was
    (goes_then (goes_same (link_kept kept s c.args.parent c.args.name.now c.args.target.now c.args.new c.if-not-mounted.false ∙ c.check_target.ensures.target whole ∙ ap (λ (o : Result _ Errno). go_on o whole) c.in_ok-check_target.was ∙ c.in_ok-directory.ensures _)) (goes_then (c.in_ok-path.ensures _) goes_memory))

pub returns-clause-does : goal.returns-clause-does
returns-clause-does g c =
    let kept = c.args.mounted.now.asking.volume.kept in
    let s = c.args.mounted.now.session in
    let whole = linking kept s c.args.parent c.args.name.now c.args.target.now c.args.new in
    let mid = c.ask_number.new.self in
    let same : c.in-Ok.again.items ≡ c.in_ok-path.path.items = search rules in
    let h = rw (c.bear.ensures.session, c.touched-touched.ensures, c.ask_number.ensures.session, c.bear.ensures.asking, same) at c.open_link.ensures.does in
    after_number _ mid.asking _ _ _ _ _ _ _ _ _ _ c.ask_number.ensures.asked (ap (Create c.in_ok-path.path.items) c.words_for-attributes.ensures) c.in_ok-number.was
    (goes_then (goes_same (link_kept kept s c.args.parent c.args.name.now c.args.target.now c.args.new c.if-not-mounted.false ∙ c.check_target.ensures.target whole ∙ ap (λ (o : Result _ Errno). go_on o whole) c.in_ok-check_target.was ∙ c.in_ok-directory.ensures _)) (goes_then (c.in_ok-path.ensures _) goes_memory))
    (does_note _ _ _ _ _ _ _ _ h)
