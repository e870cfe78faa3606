use Rattle.std.proofs.Common.{ap, ◌∙◌}
use Rattle.std.proofs.lemmas.Result.{err_from_is_err_and}
use Rattle.fuse_writer.proofs.RequestLemmas.{name_missing, name_refused, name_there}
use Rattle.fuse_writer.proofs.naming.number_at.Goals as goal

pub returns-in_err-number : goal.returns-in_err-number
returns-in_err-number g c =
    let p = err_from_is_err_and c.from_residual.result c.from_residual.ensures.1 in
    rw (p.1, p.2) (name_refused c.args.mounted.now.asking.volume.kept c.args.directory c.args.name.now _ c.in_err-number.ensures)

pub returns-in-Some : goal.returns-in-Some
returns-in-Some g c =
    name_there c.args.mounted.now.asking.volume.kept c.args.directory c.args.name.now _ (λ next. c.in_ok-number.ensures next ∙ ap next c.in-Some.is)

pub returns-in-None : goal.returns-in-None
returns-in-None g c =
    name_missing c.args.mounted.now.asking.volume.kept c.args.directory c.args.name.now (λ next. c.in_ok-number.ensures next ∙ ap next c.in-None.is)
