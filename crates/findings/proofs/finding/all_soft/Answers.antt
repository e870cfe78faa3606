use Rattle.std.proofs.Common.{rules, tests}
use Rattle.std.proofs.lemmas.Iterator.{YieldsList-from_slice}
use Rattle.std.proofs.lemmas.Iterator.Search.{all_from_yields_List}
use Rattle.findings.specs.Findings.{is_soft}
use Rattle.findings.proofs.finding.all_soft.Goals as goal

pub returns : goal.returns
returns c = all_from_yields_List is_soft _ _ _ c.all.ensures.ran (YieldsList-from_slice c.args.findings.now cc) (λ x b q k. search (rules, tests))
