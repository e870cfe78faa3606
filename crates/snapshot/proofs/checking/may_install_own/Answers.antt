use Rattle.std.proofs.Common.{is_some, ap}
use Rattle.std.proofs.lemmas.Result.{err_from_is_err_and}
use Rattle.snapshot.proofs.Installs.{own_installable, own_named}
use Rattle.snapshot.proofs.checking.may_install_own.Goals as goal

pub may_mend-requires : goal.may_mend-requires
may_mend-requires g c = ap is_some c.requires

pub returns-in_err-may_mend-clause-refused : goal.returns-in_err-may_mend-clause-refused
returns-in_err-may_mend-clause-refused g c =
    let p = err_from_is_err_and c.from_residual.result c.from_residual.ensures.1 in
    rw (p.1, p.2) c.in_err-may_mend.ensures.refused

pub returns-in_err-may_mend-clause-error : goal.returns-in_err-may_mend-clause-error
returns-in_err-may_mend-clause-error g c =
    let p = err_from_is_err_and c.from_residual.result c.from_residual.ensures.1 in
    rw (p.1, p.2) c.in_err-may_mend.ensures.error

pub returns-clause-installable : goal.returns-clause-installable
returns-clause-installable g c =
    let live = c.args.live.now in
    own_installable live.kept live.holdings c.args.checked.now c.tells_its_image.ensures c.requires c.latest.ensures.whole c.in_ok-may_mend.ensures.unplanned c.in_ok-may_mend.ensures.soft

pub returns-clause-named : goal.returns-clause-named
returns-clause-named g c =
    let live = c.args.live.now in
    own_named live.kept live.holdings c.args.checked.now c.tells_its_image.ensures c.requires c.latest.ensures.whole c.in_ok-may_mend.ensures.soft
