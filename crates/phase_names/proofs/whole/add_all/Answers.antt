use Rattle.std.proofs.Common.{rules}
use Rattle.std.proofs.lemmas.Iterator.Adapters.{items_from_extend}
use Rattle.std.proofs.lemmas.Iterator.Consumers.{YieldsList-from_copied, YieldsList-from_rest}
use Rattle.phase_names.proofs.AddLemmas.{adds_appended}
use Rattle.phase_names.proofs.whole.add_all.Goals as goal

pub returns : goal.returns
returns c =
    let h = items_from_extend c.extend.result c.extend.ensures.ran (YieldsList-from_copied (YieldsList-from_rest c.args.findings.now.keys cc)) in
    adds_appended c.extend.result c.args.findings.now.keys c.args.found.now.items c.extend.new.self.items (search rules)
