use Rattle.std.proofs.Common.{rules, tests}
use Rattle.frozen.specs.Kept.{frozen_view}
use Rattle.rules.proofs.LeastRule.{least_broken}
use Rattle.rules.proofs.obeys.Goals as goal

pub returns-clause-obeys : goal.returns-clause-obeys
returns-clause-obeys c =
    let kept = c.args.frozen.now in
    least_broken kept.geometry (frozen_view kept) c.in_ok-found.found.items c.in_ok-found.ensures.found _ (search (rules, tests))
