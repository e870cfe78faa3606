use Rattle.std.proofs.Common.{◌≡◌, refl, ap, sym, ◌∙◌}
use Rattle.std.proofs.lemmas.Result.{err_from_is_err_and}
use Rattle.fuse_wire.specs.declared.bodies.Body.TheVariants as bodies
use Rattle.fuse_writer.proofs.DoingLemmas.{does_same, does_say, ends_err, exit_early, on_err, on_ok, on_then}
use Rattle.fuse_writer.specs.Ahead.{with_changes}
use Rattle.fuse_writer.specs.Requests.{keeps, kept_for, says_shown}
use Rattle.fuse_reader.specs.Said.{told}
use Rattle.fuse_writer.proofs.SettingLemmas.{given, keeps_at, sets_allowed, sets_forbidden, sets_with}
use Rattle.fuse_writer.proofs.setting.set_attributes.Goals as goal

pub returns-in_err-number-clause-does : goal.returns-in_err-number-clause-does
returns-in_err-number-clause-does g c =
    exit_early _ _ _ _ (bodies.Attributes (kept_for c.args.mounted.now.session)) _ _ (err_from_is_err_and c.from_residual.result c.from_residual.ensures.1) refl _ refl (c.in_err-number.ensures _)

pub returns-then-is_forbidden-clause-does : goal.returns-then-is_forbidden-clause-does
returns-then-is_forbidden-clause-does g c =
    does_same _ _ _ _ _ _ _ (sets_forbidden c.args.mounted.now.asking.volume.kept c.args.mounted.now.session c.args.node c.args.changes.now c.in_ok-number.number c.in_ok-number.ensures
    (sym c.is_forbidden.ensures ∙ c.if-is_forbidden.true)) (does_say _ _ _ _ _ _ refl refl refl)

pub returns-in_err-set_size-clause-does : goal.returns-in_err-set_size-clause-does
returns-in_err-set_size-clause-does g c =
    let kept = c.args.mounted.now.asking.volume.kept in
    let s = c.args.mounted.now.session in
    let i = c.in_ok-number.number in
    let changes = c.args.changes.now in
    let own = c.with_changes-attributes.result in
    let is : own ≡ given kept s i changes = c.with_changes-attributes.ensures ∙ ap (with_changes s.time changes) c.attributes_of-own.ensures in
    let allowed = sets_allowed kept s c.args.node changes i c.in_ok-number.ensures (sym c.is_forbidden.ensures ∙ c.if-is_forbidden.false) ∙ ap (sets_with kept s i changes) (sym is) in
    does_same _ _ _ _ _ _ _ allowed
    (ends_err _ _ _ _ (bodies.Attributes (kept_for c.set_size.new.mounted.session)) _ _ _ (err_from_is_err_and c.from_residual-in_err-set_size.result c.from_residual-in_err-set_size.ensures.1)
    (on_err _ _ _ _ _ _ _ _ _ c.in_err-set_size.was (c.set_size.ensures.does (keeps s i changes own (says_shown i)))))

pub returns-in_err-keep-clause-does : goal.returns-in_err-keep-clause-does
returns-in_err-keep-clause-does g c =
    let kept = c.args.mounted.now.asking.volume.kept in
    let s = c.args.mounted.now.session in
    let i = c.in_ok-number.number in
    let changes = c.args.changes.now in
    let own = c.with_changes-attributes.result in
    let is : own ≡ given kept s i changes = c.with_changes-attributes.ensures ∙ ap (with_changes s.time changes) c.attributes_of-own.ensures in
    let allowed = sets_allowed kept s c.args.node changes i c.in_ok-number.ensures (sym c.is_forbidden.ensures ∙ c.if-is_forbidden.false) ∙ ap (sets_with kept s i changes) (sym is) in
    let sized = c.set_size.new.mounted in
    let last = c.keep.new.mounted in
    does_same _ _ _ _ _ _ _ allowed
    (ends_err _ _ _ _ (bodies.Attributes (kept_for c.keep.new.mounted.session)) _ _ _ (err_from_is_err_and c.from_residual-in_err-keep.result c.from_residual-in_err-keep.ensures.1)
    (on_then _ _ _ _ _ _ _ _ _ (on_ok _ _ _ _ _ _ _ _ _ c.in_ok-set_size.was (c.set_size.ensures.does (keeps s i changes own (says_shown i))))
    (on_err _ _ _ _ _ _ _ _ _ c.in_err-keep.was
    (keeps_at sized.asking last.asking s sized.session last.session i changes own c.keep.result c.set_size.ensures.session c.keep.ensures.does (says_shown i)))))

pub returns-clause-does : goal.returns-clause-does
returns-clause-does g c =
    let kept = c.args.mounted.now.asking.volume.kept in
    let s = c.args.mounted.now.session in
    let i = c.in_ok-number.number in
    let changes = c.args.changes.now in
    let own = c.with_changes-attributes.result in
    let is : own ≡ given kept s i changes = c.with_changes-attributes.ensures ∙ ap (with_changes s.time changes) c.attributes_of-own.ensures in
    let allowed = sets_allowed kept s c.args.node changes i c.in_ok-number.ensures (sym c.is_forbidden.ensures ∙ c.if-is_forbidden.false) ∙ ap (sets_with kept s i changes) (sym is) in
    let sized = c.set_size.new.mounted in
    let last = c.keep.new.mounted in
    does_same _ _ _ _ _ _ _ allowed
    (on_then _ _ _ _ _ _ _ _ _ (on_ok _ _ _ _ _ _ _ _ _ c.in_ok-set_size.was (c.set_size.ensures.does (keeps s i changes own (says_shown i))))
    (on_ok _ _ _ _ _ _ _ _ _ c.in_ok-keep.was
    (keeps_at sized.asking last.asking s sized.session last.session i changes own c.keep.result c.set_size.ensures.session c.keep.ensures.does (says_shown i)))
    _ _ _ (does_say _ _ _ _ _ _ refl (ap (λ a. told (bodies.Attributes (kept_for last.session) a)) c.shown_of.ensures) refl))
