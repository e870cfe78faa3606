use Rattle.frozen.specs.Kept.{frozen_view}
use Rattle.live_plans.proofs.FoundLemmas.{self_shown}
use Rattle.test_plans.proofs.Ends.{entry_kept}
use Rattle.test_plans.proofs.removals.unnaming.Goals as goal

pub unnamed-requires-clause-entry : goal.unnamed-requires-clause-entry
unnamed-requires-clause-entry c =
    let f = c.frozen.result.now in
    entry_kept f c.args.metadata.now c.in_ok-parsed.parsed c.in_ok-found.found c.frozen.ensures.same (c.in_ok-found.ensures.found (frozen_view f) (self_shown f)).at
