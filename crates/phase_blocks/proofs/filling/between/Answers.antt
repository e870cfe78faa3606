use Rattle.std.proofs.Common.{◌≤◌, rules, arith, length}
use Rattle.phase_blocks.proofs.FillLemmas.{between_points}
use Rattle.phase_blocks.proofs.filling.between.Goals as goal

pub returns-clause-all : goal.returns-clause-all
returns-clause-all c = λ sorted claim low small listed.
    let lower = (c.count_below-from.ensures.below sorted).0 in
    let upper = (c.count_below.ensures.below sorted).1 in
    let le : c.count_below-from.result ≤ c.max-to.result = search rules in
    let high : c.max-to.result ≤ length c.args.claims.now = search rules in
    between_points c.args.claims.now c.args.first c.args.past c.count_below-from.result c.max-to.result le high
    (λ k d below. lower k d (omega arith) below) (λ k d above within. upper k d (let less : c.count_below.result ≤ c.max-to.result = search rules in omega (arith, less, above)) within)
    claim low small listed
