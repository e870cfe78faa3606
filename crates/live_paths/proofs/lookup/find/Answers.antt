use Rattle.live_paths.proofs.LookupLemmas.{name_found, entry_found}
use Rattle.live_paths.proofs.lookup.find.Goals as goal

pub returns-clause-found : goal.returns-clause-found
returns-clause-found c = λ view shown. name_found c.args.frozen.now view shown c.args.directory c.args.name c.first.result c.first.ensures.found c.first.ensures.none

pub returns-clause-entry : goal.returns-clause-entry
returns-clause-entry c = λ view shown. entry_found c.args.frozen.now view shown c.args.directory c.args.name c.first.result c.first.ensures.found
