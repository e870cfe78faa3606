use Rattle.std.proofs.Common.{◌≡◌, refl, sym, ap, ap₂, ◌∙◌}
use Rattle.std.proofs.lemmas.Result.{err_from_is_err_and}
use Rattle.machine.specs.Command.{Status}
use Rattle.model.specs.Image.{image_view}
use Rattle.model.specs.View.{Inode}
use Rattle.reading.proofs.ByteLemmas.{same_inode}
use Rattle.reading.proofs.CauseLemmas.{number_of, stat_accepted, stat_refused}
use Rattle.reading.proofs.looking.stat.Goals as goal

pub returns-in_err-number-clause-refused : goal.returns-in_err-number-clause-refused
returns-in_err-number-clause-refused c =
    let p = err_from_is_err_and c.from_residual.result c.from_residual.ensures.1 in
    let kept = c.args.frozen.now in
    rw (p.1, p.2) (λ image is. stat_refused kept.geometry (image_view kept.geometry image) c.args.path.now c.in_err-number.field-0.0 (c.in_err-number.ensures.refused image is))

pub returns-clause-found : goal.returns-clause-found
returns-clause-found c = λ image is.
    let kept = c.args.frozen.now in
    let view = image_view kept.geometry image in
    let i = c.in_ok-number.number in
    let leads = c.in_ok-number.ensures.found image is in
    let number = sym (number_of kept.geometry view c.args.path.now i leads) in
    let inode : c.record_of.result ≡ view.inode i = c.record_of.ensures ∙ same_inode kept image is i in (
      (stat_accepted kept.geometry view c.args.path.now i leads, tt),
      (ap₂ (λ n (r : Inode). Status n r.mode r.links r.size) number (inode ∙ ap (λ n. view.inode n) number), refl),
    )
