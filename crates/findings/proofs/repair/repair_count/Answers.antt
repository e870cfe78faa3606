use Rattle.std.proofs.Common.{sym, ◌∙◌}
use Rattle.findings.proofs.RepairLemmas.{length-repairs_where_soft}
use Rattle.findings.proofs.repair.repair_count.Goals as goal

pub returns-then-all_soft : goal.returns-then-all_soft
returns-then-all_soft c = sym (length-repairs_where_soft c.args.findings.now (sym c.all_soft.ensures ∙ c.if-all_soft.true))
