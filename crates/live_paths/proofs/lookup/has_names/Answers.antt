use Rattle.std.proofs.Common.{◌∙◌}
use Rattle.live_paths.proofs.LookupLemmas.{names_found}
use Rattle.live_paths.proofs.lookup.has_names.Goals as goal

pub returns : goal.returns
returns c = λ view shown. c.is_some.ensures ∙ names_found c.args.frozen.now view shown c.args.directory c.first.result c.first.ensures.found c.first.ensures.none
