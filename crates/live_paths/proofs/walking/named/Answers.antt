use Rattle.std.proofs.Common.{sym}
use Rattle.live_paths.proofs.WalkLemmas.{named_none, named_some}
use Rattle.live_paths.proofs.walking.named.Goals as goal

pub returns-in-Some : goal.returns-in-Some
returns-in-Some c = λ view shown.
    let found = c.in-Some.ensures.found view shown in
    sym (named_some c.args.frozen.now.geometry view c.args.directory c.in-Some.entry.slot c.in-Some.entry.number c.args.name.now found.0 found.1)

pub returns-in-None : goal.returns-in-None
returns-in-None c = λ view shown. sym (named_none c.args.frozen.now.geometry view c.args.directory c.args.name.now (c.in-None.ensures.found view shown))
