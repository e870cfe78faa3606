use Rattle.fsck.proofs.VerdictLemmas.{damaged_where_broken}
use Rattle.fsck.proofs.damaged_where_a_rule_is_broken.Goals as goal

pub returns : goal.returns
returns c = damaged_where_broken
