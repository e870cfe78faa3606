use Rattle.std.proofs.Common.{ap, ◌∙◌, subst}
use Rattle.frozen.specs.Kept.{Kept, frozen_view}
use Rattle.live_plans.specs.Linked.{HasPointers}
use Rattle.live_plans.proofs.FoundLemmas.{self_shown}
use Rattle.test_plans.proofs.entering.entered_on.Goals as goal

pub enter_at-requires-clause-pointers : goal.enter_at-requires-clause-pointers
enter_at-requires-clause-pointers c = subst (λ (held : Kept). HasPointers held c.args.directory) c.frozen-frozen.ensures.same (c.has_pointers.ensures c.if-not-has_pointers.false)

pub enter_at-requires-clause-parent : goal.enter_at-requires-clause-parent
enter_at-requires-clause-parent c = (
  ((frozen_view c.args.metadata.now).inode c.args.directory).links,
  c.record-parent.ensures ∙ ap (λ (held : Kept). (frozen_view held).inode c.args.directory) c.frozen-frozen.ensures.same,
)

pub enter_at-requires-clause-place : goal.enter_at-requires-clause-place
enter_at-requires-clause-place c = (c.in_ok-places.ensures.chosen (frozen_view c.args.metadata.now) (self_shown c.args.metadata.now)).2.place

pub enter_at-requires-clause-room : goal.enter_at-requires-clause-room
enter_at-requires-clause-room c = (c.in_ok-places.ensures.chosen (frozen_view c.args.metadata.now) (self_shown c.args.metadata.now)).0
