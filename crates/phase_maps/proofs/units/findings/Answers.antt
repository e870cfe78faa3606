use Rattle.std.proofs.Common.{List, subst, arith, ap}
use Rattle.frozen.specs.Kept.{frozen_view}
use Rattle.findings.specs.declared.finding.Finding.{Finding}
use Rattle.model.specs.Layout.{Geometry}
use Rattle.model.specs.Growth.{Adds}
use Rattle.phase_maps.specs.Walks.{IsFoundInGroup, is_owned}
use Rattle.phase_maps.proofs.WalkLemmas.{maps_found}
use Rattle.phase_maps.proofs.units.findings.Goals as goal

pub returns-then-unit-groups-clause-found : goal.returns-then-unit-groups-clause-found
returns-then-unit-groups-clause-found c = λ own low.
    absurd (omega (arith, low, c.if-unit-groups.true, c.groups.ensures.count, ap (λ (g : Geometry). g.groups) c.geometry.ensures.geometry))

pub returns-clause-found : goal.returns-clause-found
returns-clause-found c = λ own low.
    let geo = c.args.frozen.now.geometry in
    let view = frozen_view c.args.frozen.now in
    maps_found geo c.geometry.ensures.frame.geometry view c.args.unit low c.args.owners.now own c.add_blocks.new.found.items c.add_numbers.new.found.items
    (subst (λ (xs : List Finding). Adds (IsFoundInGroup geo view (is_owned c.args.owners.now) c.args.unit) xs c.add_blocks.new.found.items) c.new-found.ensures.items c.in_ok-add_blocks.ensures)
    c.in_ok-add_numbers.ensures
