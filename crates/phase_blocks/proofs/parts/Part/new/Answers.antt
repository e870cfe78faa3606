use Rattle.findings.proofs.FindingOrder.{sorted_findings}
use Rattle.phase_blocks.proofs.Gathering.{gathered_none}
use Rattle.phase_blocks.proofs.parts.Part.new.Goals as goal

pub returns-clause-part : goal.returns-clause-part
returns-clause-part c = λ geo view.
    gathered_none geo view c.new.result.items c.new-2.result.keys c.new.ensures.items c.new-2.ensures.empty (sorted_findings c.new-2.result.keys c.new-2.ensures.ordered)
