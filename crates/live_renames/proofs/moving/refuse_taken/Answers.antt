-- The name stands in the directory, or does not.
use Rattle.live_renames.proofs.LateLemmas.{none_taken, some_taken}
use Rattle.live_renames.proofs.moving.refuse_taken.Goals as goal

pub returns-in-Some : goal.returns-in-Some
returns-in-Some c = λ view shown way.
    let found = c.in-Some.ensures.found view shown in
    some_taken c.args.frozen.now.geometry view c.args.to.now c.args.directory way c.in-Some.field-0.slot c.in-Some.field-0.number c.name.result.now c.name.ensures.name found.0 found.1

pub returns-in-None : goal.returns-in-None
returns-in-None c = λ view shown way.
    none_taken c.args.frozen.now.geometry view c.args.to.now c.args.directory way c.name.result.now c.name.ensures.name (c.in-None.ensures.found view shown)
