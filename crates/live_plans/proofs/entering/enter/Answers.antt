use Rattle.machine.proofs.Decisions.{directory_is_sound}
use Rattle.frozen.specs.Kept.{frozen_view}
use Rattle.live_plans.proofs.GrowLemmas.{volume_claims}
use Rattle.live_plans.proofs.entering.enter.Goals as goal

pub enter_at-requires-clause-pointers : goal.enter_at-requires-clause-pointers
enter_at-requires-clause-pointers c =
    let kept = c.args.metadata.now in
    let d = c.args.new.now.directory in
    volume_claims kept c.frozen.ensures.metadata c.requires.volume d (directory_is_sound kept.geometry (frozen_view kept) d c.requires.directory)
