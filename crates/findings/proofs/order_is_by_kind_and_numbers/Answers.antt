use Rattle.findings.proofs.FindingOrder.{cmp_at}
use Rattle.findings.proofs.order_is_by_kind_and_numbers.Goals as goal

pub returns : goal.returns
returns c = cmp_at
