-- What the walk leads to is a directory, and the name is there or is not.
use Rattle.std.proofs.Common.{sym, ◌∙◌}
use Rattle.frozen.specs.Kept.{frozen_view}
use Rattle.model.specs.Layout.{root}
use Rattle.live_plans.proofs.FoundLemmas.{self_shown}
use Rattle.live_creations.proofs.Names.{name_new, name_taken, walk_into}
use Rattle.live_creations.proofs.placing.directory_for.Goals as goal

pub returns-in-Some-clause-refused : goal.returns-in-Some-clause-refused
returns-in-Some-clause-refused c = λ view shown.
    let found = c.in-Some.ensures.found view shown in
    name_taken c.args.frozen.now.geometry view c.args.path.now c.in_ok-directory.directory (sym (c.walk.ensures view shown) ∙ c.in_ok-directory.was) c.name.result.now c.name.ensures.name
    c.in-Some.field-0.slot c.in-Some.field-0.number found.0 found.1

pub returns-in-None-clause-directory : goal.returns-in-None-clause-directory
returns-in-None-clause-directory c =
    let kept = c.args.frozen.now in
    walk_into kept.geometry (frozen_view kept) c.args.path.now root c.in_ok-directory.directory (sym (c.walk.ensures (frozen_view kept) (self_shown kept)) ∙ c.in_ok-directory.was)

pub returns-in-None-clause-named : goal.returns-in-None-clause-named
returns-in-None-clause-named c = λ view shown.
    name_new c.args.frozen.now.geometry view c.args.path.now c.in_ok-directory.directory (sym (c.walk.ensures view shown) ∙ c.in_ok-directory.was) c.name.result.now c.name.ensures.name
    (c.in-None.ensures.found view shown)
