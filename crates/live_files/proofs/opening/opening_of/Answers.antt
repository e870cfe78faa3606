use Rattle.std.proofs.Common.{sym, ◌∙◌}
use Rattle.std.proofs.lemmas.Result.{err_from_is_err_and}
use Rattle.live_files.proofs.OpenLemmas.{badly, to_directory, to_file, to_many, to_nowhere}
use Rattle.live_files.proofs.opening.opening_of.Goals as goal

pub returns-in_err-path-clause-refused : goal.returns-in_err-path-clause-refused
returns-in_err-path-clause-refused c =
    let p = err_from_is_err_and c.from_residual.result c.from_residual.ensures.1 in
    rw (p.1, p.2, c.in_err-path.ensures.1) (badly c.args.metadata.now c.args.holdings.now c.args.path.now c.in_err-path.ensures.0)

pub returns-in_err-number-clause-refused : goal.returns-in_err-number-clause-refused
returns-in_err-number-clause-refused c =
    let p = err_from_is_err_and c.from_residual-in_err-number.result c.from_residual-in_err-number.ensures.1 in
    rw (p.1, p.2)
    (to_nowhere c.frozen-frozen.result.now c.args.metadata.now c.frozen-frozen.ensures.same c.frozen-frozen.ensures.metadata c.args.holdings.now c.args.path.now c.in_ok-path.path c.in_ok-path.ensures
    c.target.result c.target.ensures c.in_err-number.field-0.0 c.in_err-number.was)

pub returns-then-is_directory_at-clause-refused : goal.returns-then-is_directory_at-clause-refused
returns-then-is_directory_at-clause-refused c =
    to_directory c.frozen-frozen.result.now c.args.metadata.now c.frozen-frozen.ensures.same c.frozen-frozen.ensures.metadata c.args.holdings.now c.args.path.now c.in_ok-path.path c.in_ok-path.ensures
    c.target.result c.target.ensures c.in_ok-number.number c.in_ok-number.was (sym c.is_directory_at.ensures ∙ c.if-is_directory_at.true)

pub returns-in-Some-clause-opens : goal.returns-in-Some-clause-opens
returns-in-Some-clause-opens c =
    to_file c.frozen-frozen.result.now c.args.metadata.now c.frozen-frozen.ensures.same c.frozen-frozen.ensures.metadata c.args.holdings.now c.args.path.now c.in_ok-path.path c.in_ok-path.ensures
    c.target.result c.target.ensures c.in_ok-number.number c.in_ok-number.was (sym c.is_directory_at.ensures ∙ c.if-is_directory_at.false) c.in-Some.handle c.in-Some.ensures

pub returns-in-None-clause-refused : goal.returns-in-None-clause-refused
returns-in-None-clause-refused c =
    to_many c.frozen-frozen.result.now c.args.metadata.now c.frozen-frozen.ensures.same c.frozen-frozen.ensures.metadata c.args.holdings.now c.args.path.now c.in_ok-path.path c.in_ok-path.ensures
    c.target.result c.target.ensures c.in_ok-number.number c.in_ok-number.was (sym c.is_directory_at.ensures ∙ c.if-is_directory_at.false) c.in-None.ensures
