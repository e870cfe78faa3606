use Rattle.std.proofs.Common.{refl, sym, ap, ◌∙◌}
use Rattle.std.proofs.lemmas.Result.{err_from_is_err_and}
use Rattle.frozen.specs.Kept.{frozen_view}
use Rattle.machine.specs.Effects.{names_below}
use Rattle.model.specs.Image.{image_view}
use Rattle.model.specs.Reach.{slot_count}
use Rattle.reading.proofs.ByteLemmas.{same_directory}
use Rattle.reading.proofs.CauseLemmas.{list_accepted, list_of_file, list_refused, number_of}
use Rattle.reading.proofs.looking.list.Goals as goal

pub returns-in_err-directory-clause-refused : goal.returns-in_err-directory-clause-refused
returns-in_err-directory-clause-refused c =
    let p = err_from_is_err_and c.from_residual.result c.from_residual.ensures.1 in
    let kept = c.args.frozen.now in
    rw (p.1, p.2) (λ image is. list_refused kept.geometry (image_view kept.geometry image) c.args.path.now c.in_err-directory.field-0.0 (c.in_err-directory.ensures.refused image is))

pub returns-then-not-is_directory_at-clause-refused : goal.returns-then-not-is_directory_at-clause-refused
returns-then-not-is_directory_at-clause-refused c = λ image is.
    let kept = c.args.frozen.now in
    let view = image_view kept.geometry image in
    let i = c.in_ok-directory.directory in
    list_of_file kept.geometry view c.args.path.now i (c.in_ok-directory.ensures.found image is)
    (sym (same_directory kept.geometry (frozen_view kept) view is.metadata i) ∙ sym c.is_directory_at.ensures ∙ c.if-not-is_directory_at.true)

pub returns-clause-listed : goal.returns-clause-listed
returns-clause-listed c = λ image is.
    let kept = c.args.frozen.now in
    let view = image_view kept.geometry image in
    let i = c.in_ok-directory.directory in
    let leads = c.in_ok-directory.ensures.found image is in
    let directory = sym (same_directory kept.geometry (frozen_view kept) view is.metadata i) ∙ sym c.is_directory_at.ensures ∙ c.if-not-is_directory_at.false in (
      (list_accepted kept.geometry view c.args.path.now i leads directory, tt),
      (c.in_ok-names.ensures view is.metadata ∙ ap (λ n. names_below kept.geometry view n (slot_count kept.geometry)) (sym (number_of kept.geometry view c.args.path.now i leads)), refl),
    )
