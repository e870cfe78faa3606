use Rattle.std.proofs.Common.{refl, subst}
use Rattle.phase_blocks.specs.Parts.{Gathered, AddsFinding}
use Rattle.findings.proofs.FindingOrder.{sorted_findings}
use Rattle.phase_blocks.proofs.FindingSets.{inserted}
use Rattle.phase_blocks.proofs.parts.Part.add_finding.Goals as goal

pub returns-clause-added : goal.returns-clause-added
returns-clause-added c =
    let e = c.in_ok-insert.ensures in
    subst (λ (g : Gathered). AddsFinding g (record { claims = c.self.inside.claims.items; found = c.insert.new.self.keys }) c.args.finding) c.self.view_is
    (record {
      claims = refl;
      in_order = sorted_findings c.insert.new.self.keys e.ordered;
      members = inserted c.self.inside.found c.insert.new.self c.args.finding e.updates;
    })
