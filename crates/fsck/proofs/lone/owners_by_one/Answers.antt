use Rattle.std.proofs.Common.{◌≡◌, ℕ, List, sym, ap, ◌∙◌, subst}
use Rattle.frozen.specs.Kept.{frozen_view}
use Rattle.findings.specs.Groups.{IsEach}
use Rattle.model.specs.Layout.{Geometry}
use Rattle.phase_blocks.specs.Owners.{AreGathered}
use Rattle.phase_blocks.specs.Parts.{Gathered}
use Rattle.fsck.specs.Parts.{is_blocks_part, is_owned, is_owned_of}
use Rattle.fsck.proofs.PartLemmas.{made_of_groups, of_units}
use Rattle.fsck.proofs.lone.owners_by_one.Goals as goal

pub returns-clause-made : goal.returns-clause-made
returns-clause-made c =
    let kept = c.args.frozen.now in
    let groups : c.groups-groups.result ≡ kept.geometry.groups = c.groups-groups.ensures.count ∙ ap (λ (one : Geometry). one.groups) c.geometry.ensures.geometry in
    let each : AreGathered kept.geometry (frozen_view kept) c.as_slice-parts.result.now =
    subst (λ (parts : List Gathered). AreGathered kept.geometry (frozen_view kept) parts) (sym c.as_slice-parts.ensures.value)
    (subst (λ (n : ℕ). IsEach (is_blocks_part kept) n c.in_ok-parts.parts.items) groups c.in_ok-parts.ensures.made) in
    made_of_groups (λ unit made. is_owned_of kept c.as_slice-parts.result.now unit made.kept made.found.items) (λ unit made. is_owned kept unit made.kept made.found.items) kept.geometry.groups
    c.parts_of_one-2.result (λ unit made low told. told each low)
    (of_units (λ unit made. is_owned_of kept c.as_slice-parts.result.now unit made.kept made.found.items) c.groups-groups.result kept.geometry.groups c.parts_of_one-2.result groups c.parts_of_one-2.ensures)
