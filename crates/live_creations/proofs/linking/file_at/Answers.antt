-- What the path leads to is a file, or the first cause that refuses it.
use Rattle.std.proofs.Common.{sym, ◌∙◌}
use Rattle.std.proofs.lemmas.Result.{err_from_is_err_and}
use Rattle.model.proofs.Same.{same_facts}
use Rattle.frozen.specs.Kept.{frozen_view}
use Rattle.live_creations.proofs.Refusals.{leads_nowhere, no_file, is_file}
use Rattle.live_creations.proofs.linking.file_at.Goals as goal

pub returns-in_err-number-clause-refused : goal.returns-in_err-number-clause-refused
returns-in_err-number-clause-refused c =
    let p = err_from_is_err_and c.from_residual.result c.from_residual.ensures.1 in
    rw (p.1, p.2) (λ view shown. leads_nowhere c.args.frozen.now.geometry view c.args.path.now c.in_err-number.field-0.0 (sym (c.target.ensures view shown) ∙ c.in_err-number.was))

pub returns-then-is_directory_at-clause-refused : goal.returns-then-is_directory_at-clause-refused
returns-then-is_directory_at-clause-refused c = λ view shown.
    let geo = c.args.frozen.now.geometry in
    no_file geo view c.args.path.now c.in_ok-number.number (sym (c.target.ensures view shown) ∙ c.in_ok-number.was)
    (sym ((same_facts geo (frozen_view c.args.frozen.now) view shown).directory_at c.in_ok-number.number) ∙ sym c.is_directory_at.ensures ∙ c.if-is_directory_at.true)

pub returns-clause-found : goal.returns-clause-found
returns-clause-found c = λ view shown.
    let geo = c.args.frozen.now.geometry in
    is_file geo view c.args.path.now c.in_ok-number.number (sym (c.target.ensures view shown) ∙ c.in_ok-number.was)
    (sym ((same_facts geo (frozen_view c.args.frozen.now) view shown).directory_at c.in_ok-number.number) ∙ sym c.is_directory_at.ensures ∙ c.if-is_directory_at.false)
