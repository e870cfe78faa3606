use Rattle.std.proofs.Common.{◌≡◌, ◌++◌, List, Option, Ok, ap, ◌∙◌, sym, subst}
use Rattle.frozen.specs.Kept.{frozen_view}
use Rattle.findings.specs.declared.finding.Finding.{Finding}
use Rattle.findings.specs.Findings.{is_of_blocks, is_of_counts, is_of_maps}
use Rattle.findings.specs.Groups.{IsEach}
use Rattle.phase_blocks.specs.declared.parts.Claim.{Claim}
use Rattle.phase_blocks.specs.Owners.{AreOwners}
use Rattle.fsck.specs.Checked.{IsFoundIn}
use Rattle.fsck.specs.Parts.{are_links, are_links_if, are_maps, are_maps_of}
use Rattle.fsck.proofs.FindingLemmas.{all_phases}
use Rattle.fsck.proofs.PartLemmas.{each_kept, each_of_groups}
use Rattle.fsck.proofs.find_by.Goals as goal

pub returns-clause-found : goal.returns-clause-found
returns-clause-found g c = λ f.
    let kept = c.args.frozen.now in
    let geo = kept.geometry in
    let view = frozen_view kept in
    let first = c.requires.blocks (Ok c.in_ok-blocks.field-0) c.in_ok-blocks.ensures in
    let ok = first.0.geometry in
    let each = first.1.made in
    let reached = (c.requires.walk (Ok c.in_ok-reached.reached) c.in_ok-reached.ensures).reached in
    let links = (c.requires.counts c.in_ok-reached.reached (Ok c.in_ok-counts.field-0) c.in_ok-counts.ensures).made in
    let tables = (c.requires.maps c.in_ok-owners.owners (Ok c.in_ok-maps.field-0) c.in_ok-maps.ensures).made in
    let owners : IsEach (AreOwners geo view) geo.groups c.in_ok-owners.owners.items =
    subst (λ (xs : List (List (Option Claim))). IsEach (AreOwners geo view) geo.groups xs) (sym c.in_ok-owners.ensures.kept)
    (each_kept (λ one. one.kept) (AreOwners geo view) geo.groups c.in_ok-blocks.field-0.items (record { count = each.count; each = λ unit one at. (each.each unit one at).0 })) in
    let blocks = c.in_ok-owners.found.items in
    let names = c.in_ok-check_names.field-0.items in
    let lost = c.in_ok-findings.field-0.items in
    let counts = c.in_ok-all_found.field-0.items in
    let maps = c.in_ok-all_found-2.field-0.items in
    let one = c.in_ok-owners.ensures.found is_of_blocks geo view ok (record { count = each.count; each = λ unit part at. (each.each unit part at).1 }) in
    let four = c.in_ok-all_found.ensures.found is_of_counts geo view ok
    (each_of_groups (λ unit found. are_links_if kept c.in_ok-reached.reached unit found.items) (λ unit found. are_links kept unit found.items) geo.groups c.in_ok-counts.field-0.items (λ unit found low told. told reached) links) in
    let five = c.in_ok-all_found-2.ensures.found is_of_maps geo view ok
    (each_of_groups (λ unit found. are_maps_of kept c.in_ok-owners.owners.items unit found.items) (λ unit found. are_maps kept unit found.items) geo.groups c.in_ok-maps.field-0.items (λ unit found low told. told owners low) tables) in
    let three : c.append-2.new.self.items ≡ (blocks ++ names) ++ lost = c.in_ok-append-2.ensures.items ∙ ap (λ xs. xs ++ lost) c.in_ok-append.ensures.items in
    let all : c.append-4.new.self.items ≡ (((blocks ++ names) ++ lost) ++ counts) ++ maps =
    c.in_ok-append-4.ensures.items ∙ ap (λ xs. xs ++ maps) (c.in_ok-append-3.ensures.items ∙ ap (λ xs. xs ++ counts) three) in
    subst (λ (xs : List Finding). IsFoundIn kept f xs) (sym all)
    (all_phases geo view blocks names lost counts maps one (c.in_ok-check_names.ensures.findings reached).exactly (c.in_ok-findings.ensures.found reached).exactly four five f)
