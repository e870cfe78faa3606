use Rattle.std.proofs.Common.{sym, ◌∙◌}
use Rattle.frozen.specs.Kept.{frozen_view}
use Rattle.live_plans.proofs.FoundLemmas.{self_shown}
use Rattle.test_plans.proofs.Ends.{entry_kept}
use Rattle.model.proofs.SlotLemmas.{directory_number}
use Rattle.test_plans.proofs.removals.removing.Goals as goal

pub record-requires : goal.record-requires
record-requires c =
    let f = c.frozen.result.now in
    let g = c.frozen-2.result.now in
    directory_number g.geometry (frozen_view g) c.in_ok-found.found.directory
    (entry_kept f g c.in_ok-parsed.parsed c.in_ok-found.found (c.frozen.ensures.same ∙ sym c.frozen-2.ensures.same) (c.in_ok-found.ensures.found (frozen_view f) (self_shown f)).at).directory

pub removed-requires-clause-entry : goal.removed-requires-clause-entry
removed-requires-clause-entry c =
    let f = c.frozen.result.now in
    entry_kept f c.args.metadata.now c.in_ok-parsed.parsed c.in_ok-found.found c.frozen.ensures.same (c.in_ok-found.ensures.found (frozen_view f) (self_shown f)).at
