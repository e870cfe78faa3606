use Rattle.frozen.specs.Kept.{frozen_view}
use Rattle.live_paths.proofs.ShownLemmas.{self_shown}
use Rattle.live_renames.specs.Refused.{AreEnds}
use Rattle.test_plans.proofs.Ends.{part_short, there, walked_parts}
use Rattle.test_plans.proofs.renames.renaming.Goals as goal

pub rename_in_slot-requires-clause-found : goal.rename_in_slot-requires-clause-found
rename_in_slot-requires-clause-found c =
    let kept = c.args.metadata.now in
    (c.in_ok-from.from, (there (λ geo v. AreEnds geo v c.in_ok-from.from c.in_ok-to.to c.in_ok-ends.ends) c.frozen.result.now kept c.frozen.ensures.same c.in_ok-ends.ensures (frozen_view kept) (self_shown kept)).found)

pub rename_in_slot-requires-clause-name : goal.rename_in_slot-requires-clause-name
rename_in_slot-requires-clause-name c =
    let kept = c.args.metadata.now in
    let are = there (λ geo v. AreEnds geo v c.in_ok-from.from c.in_ok-to.to c.in_ok-ends.ends) c.frozen.result.now kept c.frozen.ensures.same c.in_ok-ends.ensures (frozen_view kept) (self_shown kept) in
    part_short c.name.result.now (c.name.ensures.part (walked_parts kept.geometry (frozen_view kept) c.in_ok-to.to c.in_ok-ends.ends.directory are.directory))
